use Rattle.std.proofs.Common.{subst}
use Rattle.commit_graph.specs.declared.root.Root.{Root}
use Rattle.commit_graph.specs.Lists.{Adds}
use Rattle.commit_graph.specs.Pairs.{pair_of}
use Rattle.commit_graph.proofs.Adding.{extends_image}
use Rattle.commit_graph.proofs.visited.Visited.follow.Goals as goal

pub loop-link-preserved : goal.loop-link-preserved
loop-link-preserved c =
    let added = subst (λ (pair : Root). Adds c.loop-link.self pair c.add.new.self) c.pair_of.ensures c.in_ok-add.ensures.ok in
    extends_image pair_of c.args.links.now c.loop-link.link-index _ c.loop-link-test.true c.loop-link.invariant added
