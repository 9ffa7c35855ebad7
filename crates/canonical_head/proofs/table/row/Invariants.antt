use Rattle.std.proofs.Common.{take}
use Rattle.canonical_head.specs.Ancestries.{IsFoundTip}
use Rattle.canonical_head.proofs.Rows.{IsKept}
use Rattle.canonical_head.proofs.table.row.Given as goal

abbrev pub invariant-loop-number : goal.invariant-loop-number
invariant-loop-number l = IsKept (IsFoundTip l.tips l.marked.found) (take l.number l.tips) l.row
