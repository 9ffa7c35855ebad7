use Rattle.std.proofs.Common.{◌<◌, length, set, true, sym, ap, subst, ◌∙◌, arith}
use Rattle.std.proofs.lemmas.Bool.{false≢true}
use Rattle.commit_graph.proofs.Marks.{adds_new}
use Rattle.canonical_head.specs.Marks.{IsMarking, Marking}
use Rattle.canonical_head.proofs.Marking.{found_marked, marking_push}
use Rattle.canonical_head.proofs.search.Marked.add.Goals as goal

pub invariant_of-self-2 : goal.invariant_of-self-2
invariant_of-self-2 c =
    let marks = c.self.inside.marks.items in
    let below : c.args.number < length marks = omega (arith, c.requires, ap (λ (k : Marking). k.limit) c.self.view_is) in
    subst (IsMarking (set marks c.args.number true)) (sym c.in_ok-push.ensures.items)
    (marking_push marks c.self.inside.queue.items c.args.number below c.self.invariant)

pub returns-clause-ok : goal.returns-clause-ok
returns-clause-ok c =
    adds_new (ap (λ (k : Marking). k.found) c.self.view_is) c.in_ok-push.ensures.items
    (λ has. false≢true (sym c.if-index.false ∙ found_marked c.self.inside.marks.items c.self.inside.queue.items c.args.number c.index.result.now c.index.ensures c.self.invariant has))
