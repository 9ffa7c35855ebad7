use Rattle.std.proofs.Common.{take}
use Rattle.canonical_head.specs.Ancestries.{IsNumberedAs}
use Rattle.canonical_head.proofs.numbered.Numbered.number_all.Given as goal

abbrev pub invariant-loop-oid : goal.invariant-loop-oid
invariant-loop-oid l = IsNumberedAs l.fn.self (take l.oid-index l.oids) l.self l.row.items
