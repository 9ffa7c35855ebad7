use Rattle.commit_graph.proofs.Marks.{marked_push, marked_back, marked_has, marked_lacks, not_new, new_fresh, adds_old, adds_new}
use Rattle.commit_graph.proofs.PairOrder.{pair_total, pair_exact}
use Rattle.commit_graph.proofs.visited.Visited.add.Goals as goal

pub returns-then-not-branch-clause-ok : goal.returns-then-not-branch-clause-ok
returns-then-not-branch-clause-ok c =
    adds_old c.self.view_is c.self.view_is
    (marked_has pair_exact c.self.inside.marks c.self.inside.queue.items c.args.pair (not_new _ _ c.in_ok-insert.ensures.added c.if-not-branch.true) c.self.invariant)

pub returns-in-Ok-clause-ok : goal.returns-in-Ok-clause-ok
returns-in-Ok-clause-ok c =
    adds_new c.self.view_is c.in-Ok.ensures.items
    (marked_lacks pair_total c.self.inside.marks c.self.inside.queue.items c.args.pair (new_fresh _ _ c.in_ok-insert.ensures.added c.if-not-branch.false) c.self.invariant)

pub invariant_of-self-in-Ok : goal.invariant_of-self-in-Ok
invariant_of-self-in-Ok c =
    rw c.in-Ok.ensures.items
    (marked_push pair_total c.self.inside.marks _ c.self.inside.queue.items c.args.pair c.in_ok-insert.ensures.updates (new_fresh _ _ c.in_ok-insert.ensures.added c.if-not-branch.false) c.self.invariant)

pub invariant_of-self-in-Err : goal.invariant_of-self-in-Err
invariant_of-self-in-Err c =
    rw c.in-Err.ensures.items
    (marked_back pair_exact c.self.inside.marks c.insert.new.self _ c.self.inside.queue.items c.args.pair c.in_ok-insert.ensures.updates c.remove.ensures.updates (new_fresh _ _ c.in_ok-insert.ensures.added c.if-not-branch.false) c.self.invariant)
