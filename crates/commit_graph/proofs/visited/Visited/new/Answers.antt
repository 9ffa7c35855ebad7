use Rattle.commit_graph.proofs.PairOrder.{pair_cmp}
use Rattle.commit_graph.proofs.Marks.{marked_none}
use Rattle.commit_graph.proofs.visited.Visited.new.Goals as goal

pub invariant_of-result : goal.invariant_of-result
invariant_of-result c = marked_none pair_cmp _ _ c.new.ensures.empty c.new-2.ensures.items
