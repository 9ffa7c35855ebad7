use Rattle.std.proofs.Common.{List, take}
use Rattle.rad_base.specs.declared.names.Oid.{Oid}
use Rattle.commit_graph.specs.Objects.{ObjectMap}
use Rattle.canonical_head.specs.Ancestries.{IsAncestry}
use Rattle.canonical_head.specs.Tables.{AreRows}
use Rattle.canonical_head.proofs.table.rows_of.Given as goal

abbrev pub invariant-loop-number : goal.invariant-loop-number
invariant-loop-number l = (m : ObjectMap) (tips : List Oid) → IsAncestry m tips l.ancestry
    → AreRows m tips (take l.number l.ancestry.tips.items) l.rows
