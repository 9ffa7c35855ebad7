use Rattle.std.proofs.Common.{subst}
use Rattle.rad_base.specs.Lists.{AllDiffer}
use Rattle.commit_graph.proofs.Marks.{marked_differ}
use Rattle.commit_graph.proofs.PairOrder.{pair_total}
use Rattle.commit_graph.proofs.visited.Visited.len.Goals as goal

pub returns-clause-differ : goal.returns-clause-differ
returns-clause-differ c = subst AllDiffer c.self.view_is (marked_differ pair_total c.self.inside.queue.items c.self.invariant.distinct)
