use Rattle.std.proofs.Common.{take}
use Rattle.commit_graph.specs.Lists.{Extends}
use Rattle.commit_graph.proofs.visited.Visited.extend.Given as goal

abbrev pub invariant-loop-pair : goal.invariant-loop-pair
invariant-loop-pair l = Extends l.fn.self (take l.pair-index l.pairs) l.self
