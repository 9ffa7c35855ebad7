use Rattle.std.proofs.Common.{subst, sym, inl, inr, ◌∙◌}
use Rattle.commit_graph.specs.declared.root.Root.{Root}
use Rattle.commit_graph.specs.Lists.{Adds}
use Rattle.commit_graph.proofs.Adding.{extends_commits}
use Rattle.commit_graph.proofs.visited.Visited.follow_commits.Goals as goal
use Rattle.commit_graph.proofs.visited.Visited.follow_commits.Goals.{then-is_commit_link+in_ok-add, else-is_commit_link}

pub loop-link-preserved : goal.loop-link-preserved
loop-link-preserved c =
    extends_commits c.args.links.now c.loop-link.link-index _ c.loop-link-test.true c.loop-link.invariant
    (elim c.if-is_commit_link.branch [
      | then-is_commit_link+in_ok-add w ↦ inl (
        sym c.is_commit_link.ensures ∙ w.if-is_commit_link.true,
        subst (λ (pair : Root). Adds c.loop-link.self pair c.if-is_commit_link.self) w.pair_of.ensures
            (subst (λ new. Adds c.loop-link.self w.pair_of.result new) (sym w.self-is) w.in_ok-add.ensures.ok),
      )
      | else-is_commit_link w ↦ inr (sym c.is_commit_link.ensures ∙ w.if-is_commit_link.false, w.self-is)
    ])
