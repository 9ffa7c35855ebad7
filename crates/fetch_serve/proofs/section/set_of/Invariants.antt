use Rattle.std.proofs.Common.{take}
use Rattle.fetch_serve.specs.Parts.{HasNames}
use Rattle.fetch_serve.proofs.section.set_of.Given as goal

abbrev pub invariant-loop-oid : goal.invariant-loop-oid
invariant-loop-oid l = HasNames l.set (take l.oid-index l.names)
