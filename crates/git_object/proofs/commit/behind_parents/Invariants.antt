use Rattle.std.proofs.Common.{length}
use Rattle.git_object.proofs.Lines.{HasReadParents}
use Rattle.git_object.proofs.commit.behind_parents.Given as goal

abbrev pub invariant-reading : goal.invariant-reading
invariant-reading l = HasReadParents l.bytes l.rest

abbrev pub decreases-reading : goal.decreases-reading
decreases-reading l = length l.rest
