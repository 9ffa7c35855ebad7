use Rattle.std.proofs.Common.{◌∙◌, arith}
use Rattle.std.proofs.lemmas.List.{take_all}
use Rattle.commit_graph.proofs.Spread.{spread_all, spread_follows}
use Rattle.canonical_head.proofs.search.search.Goals as goal

pub loop-i-preserved : goal.loop-i-preserved
loop-i-preserved c = record {
  limit = c.in_ok-follow.ensures.limit ∙ c.loop-i.invariant.limit;
  spread = spread_follows c.loop-i.i c.at-number.result c.at-number.ensures.at c.loop-i.invariant.spread c.in_ok-follow.ensures.ok;
}

pub returns : goal.returns
returns c =
    spread_all c.loop-i.invariant.spread (take_all c.loop-i.i c.loop-i.marked.found (omega arith))
