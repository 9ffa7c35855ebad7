use Rattle.std.proofs.Common.{◌-◌, ◌^◌}
use Rattle.commit_graph.specs.Backward.{LinksTo}
use Rattle.commit_graph.proofs.MarkRounds.{Rounds, Round}
use Rattle.commit_graph.proofs.many.marks_of.Given as goal

abbrev pub invariant-loop-source : goal.invariant-loop-source
invariant-loop-source l = Rounds (LinksTo l.back) l.sources l.source-index l.marks l.i

abbrev pub invariant-loop-i : goal.invariant-loop-i
invariant-loop-i l = Round (LinksTo l.back) l.sources l.source-index l.source l.marks l.i

abbrev pub decreases-loop-i : goal.decreases-loop-i
decreases-loop-i l = 2 ^ 64 - l.i
