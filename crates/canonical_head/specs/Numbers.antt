-- Commits by numbers.
use Rattle.std.specs.Prelude.{◌≡◌, ℕ, List, Contains, slice_get, Some, ◌↔◌}
use Rattle.std.specs.BTreeMap.{BTreeMap, get}
use Rattle.rad_base.specs.declared.names.Oid.{Oid}
use Rattle.rad_base.specs.Lists.{AllDiffer}
use Rattle.rad_base.specs.Order.{oid_cmp}

-- the number of each commit is its place on the list, where none stands twice
pub record IsNumbered (numbers : BTreeMap Oid ℕ) (commits : List Oid) : Type 0 where
  pub same : (oid : Oid) (i : ℕ) → (get oid_cmp numbers oid ≡ Some i) ↔ (slice_get commits i ≡ Some oid)
  pub differ : AllDiffer commits

-- the numbers of the row are the places of the names on the list
pub record AreNumbers (commits names : List Oid) (row : List ℕ) : Type 0 where
  pub all : (name : Oid) → Contains names name → (i : ℕ) × Contains row i × (slice_get commits i ≡ Some name)
  pub only : (i : ℕ) → Contains row i → (name : Oid) × Contains names name × (slice_get commits i ≡ Some name)
