-- What the parts of an answer are.
use Rattle.std.specs.Prelude.{◌≡◌, ◌↔◌, ◌⊎◌, ℕ, Bool, not, List, ◌++◌, Contains, IsTrue}
use Rattle.std.specs.List.{flat_map}
use Rattle.std.specs.List.Sorted.{IsStrictlySortedBy}
use Rattle.std.specs.BTreeSet.{BTreeSet, contains}
use Rattle.rad_base.specs.Order.{oid_cmp}
use Rattle.rad_base.specs.declared.names.Oid.{Oid}
use Rattle.commit_graph.specs.declared.root.Root.{Root}
use Rattle.commit_graph.specs.Closures.{IsReachedName}
use Rattle.commit_graph.specs.Objects.{ObjectMap}
use Rattle.fetch_wire.specs.Sections.{Object, object_text}
use Rattle.fetch_serve.specs.Replies.{AreObjects, IsHeld}

-- the new roots are the old ones and those that have P
abbrev pub Adds : (Root → Type 0) → List Root → List Root → Type 0
Adds P old new = (root : Root) → Contains new root ↔ (Contains old root ⊎ P root)

-- the set has exactly the names of the list
abbrev pub HasNames : BTreeSet Oid → List Oid → Type 0
HasNames set names = (oid : Oid) → IsTrue (contains oid_cmp set oid) ↔ Contains names oid

-- the set lacks the name
abbrev pub is_beyond : BTreeSet Oid → Oid → Bool
is_beyond set oid = not (contains oid_cmp set oid)

-- each name has an object
abbrev pub AllThere : ObjectMap → List Oid → Type 0
AllThere objects names = (oid : Oid) → Contains names oid → IsHeld objects oid

-- the texts of an object
abbrev pub object_bytes : Object → List ℕ
object_bytes object = object_text object.0 object.1

-- the objects of the names stand behind the old bytes, one behind the other
pub record WritesObjects (objects : ObjectMap) (names : List Oid) (old new : List ℕ) : Type 0 where
  pub list : List Object
  pub are : AreObjects objects names list
  pub text : new ≡ old ++ flat_map object_bytes list

-- the names are reached from the one roots and from none of the others, in order
pub record AreBeyond (objects : ObjectMap) (asked had : List Root) (names : List Oid) : Type 0 where
  pub rising : IsStrictlySortedBy oid_cmp names
  pub exact : (oid : Oid) → Contains names oid ↔ (IsReachedName objects asked oid × (IsReachedName objects had oid → ⊥))
