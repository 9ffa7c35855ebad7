use Rattle.commit_graph.proofs.Adding.{extends_more}
use Rattle.commit_graph.proofs.visited.Visited.extend.Goals as goal

pub loop-pair-preserved : goal.loop-pair-preserved
loop-pair-preserved c =
    extends_more c.args.pairs.now c.loop-pair.pair-index _ c.loop-pair-test.true c.loop-pair.invariant c.in_ok-add.ensures.ok
