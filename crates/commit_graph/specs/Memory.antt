-- What a store in memory holds.
use Rattle.std.specs.Prelude.{◌≡◌, Bool, not, List, filter, map, length}
use Rattle.std.specs.List.{AllByRecursion}
use Rattle.std.specs.BTreeSet.{BTreeSet, contains}
use Rattle.rad_base.specs.declared.names.Oid.{Oid}
use Rattle.rad_base.specs.Order.{oid_cmp}
use Rattle.git_object.specs.Names.{name}
use Rattle.commit_graph.specs.declared.memory.Held.{Held}
use Rattle.commit_graph.specs.declared.memory.MemObjects.TheInside.{Inside}
use Rattle.commit_graph.specs.InMemory.{Holding}
use Rattle.commit_graph.specs.Objects.{Object}

-- an object that is held
abbrev pub object_of : Held → Object
object_of held = (held.kind, held.bytes.items)

-- the objects of some entries
abbrev pub held_objects : List (Oid × Held) → List Object
held_objects entries = map (λ e. object_of e.1) entries

-- the name is not staged
abbrev pub is_there : BTreeSet Oid → Oid × Held → Bool
is_there staged entry = not (contains oid_cmp staged entry.0)

-- those that are there, and all of them
abbrev pub holding_of : Inside → Holding
holding_of a = record {
  objects = held_objects (filter (is_there a.staged) a.held.entries);
  pending = held_objects a.held.entries;
}

-- each is held under its name
abbrev pub AreNamed : List (Oid × Held) → Type 0
AreNamed entries = AllByRecursion (λ e. name e.1.kind e.1.bytes.items ≡ e.0) entries

-- each is held under its name, and those that are there are counted
pub record IsHolding (a : Inside) : Type 0 where
  pub named : AreNamed a.held.entries
  pub counted : a.count ≡ length (filter (is_there a.staged) a.held.entries)
