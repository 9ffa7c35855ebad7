use Rattle.std.proofs.Common.{take}
use Rattle.canonical_head.specs.Least.{IsLeastIn}
use Rattle.canonical_head.proofs.least.least.Given as goal

abbrev pub invariant-loop-name : goal.invariant-loop-name
invariant-loop-name l = IsLeastIn (take l.name-index l.names) l.best
