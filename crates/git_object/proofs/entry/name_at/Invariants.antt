use Rattle.git_object.proofs.NameFronts.{IsClean}
use Rattle.git_object.proofs.entry.name_at.Given as goal

abbrev pub invariant-loop-at : goal.invariant-loop-at
invariant-loop-at l = IsClean l.bytes l.at
