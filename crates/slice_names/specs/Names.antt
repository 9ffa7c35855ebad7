-- Sets that are told the commits of remotes.
use Rattle.std.specs.Prelude.{List, Contains, IsTrue, ◌↔◌, ◌⊎◌}
use Rattle.std.specs.BTreeSet.{BTreeSet, contains}
use Rattle.rad_base.specs.declared.names.Nid.{Nid}
use Rattle.rad_base.specs.declared.names.Oid.{Oid}
use Rattle.rad_base.specs.Order.{oid_cmp}

-- the new set has the names of the old one and the commits of the remotes
abbrev pub AreTold : BTreeSet Oid → BTreeSet Oid → List (Nid × Oid) → Type 0
AreTold old new remotes = (oid : Oid) → IsTrue (contains oid_cmp new oid)
    ↔ (IsTrue (contains oid_cmp old oid) ⊎ ((node : Nid) × Contains remotes (node, oid)))
