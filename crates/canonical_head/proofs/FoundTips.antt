-- Rows of tips by the numbers that were found.
use Rattle.std.proofs.Common.{◌≡◌, ℕ, ◌<◌, List, [], ◌∷◌, ◌↔◌, length, get_or, Some, subst}
use Rattle.std.proofs.lemmas.Option.{slice_get-get_or, slice_get_within}
use Rattle.std.specs.BTreeMap.{BTreeMap}
use Rattle.std.specs.BTreeSet.{BTreeSet, contains}
use Rattle.std.specs.Prelude.{Contains, IsTrue, slice_get}
use Rattle.rad_base.specs.declared.names.Oid.{Oid}
use Rattle.rad_base.specs.Lists.{AllDiffer}
use Rattle.rad_base.specs.Order.{oid_cmp}
use Rattle.commit_graph.specs.Objects.{ObjectMap}
use Rattle.commit_graph.specs.Walks.{Reached}
use Rattle.canonical_head.proofs.Places.{one_place, place_of}
use Rattle.canonical_head.specs.Ancestries.{IsAncestry, IsFoundTip, IsNext}
use Rattle.canonical_head.specs.declared.ancestry.Ancestry.{Ancestry}
use Rattle.canonical_head.specs.Tables.{AreRows, IsRow}

-- a tip whose number was found
pub found_tip : (tips : List Oid) (found : List ℕ) (i : ℕ) (d : Oid) → i < length tips → Contains found i
    → IsFoundTip tips found (get_or tips i d)
found_tip tips found i d l c = (i, slice_get-get_or tips i d l, c)

-- and one whose number was not
pub not_found_tip : (tips : List Oid) (found : List ℕ) (i : ℕ) (d : Oid) → AllDiffer tips → i < length tips
    → (Contains found i → ⊥) → IsFoundTip tips found (get_or tips i d) → ⊥
not_found_tip tips found i d differ l lacks f =
    lacks (subst (Contains found) (one_place tips f.0 i (get_or tips i d) differ f.1 (slice_get-get_or tips i d l)) f.2)

-- the tips whose numbers are reached from that of one are those in its history
pub found_row : (m : ObjectMap) (tips : List Oid) (ancestry : Ancestry) (j : ℕ) (new : Oid) (found : List ℕ) (row : BTreeSet Oid)
    → IsAncestry m tips ancestry → slice_get ancestry.tips.items j ≡ Some new
    → ((number : ℕ) → number < length ancestry.tips.items → Contains found number ↔ Reached (IsNext ancestry.parents) (j ∷ []) number)
    → ((oid : Oid) → IsTrue (contains oid_cmp row oid) ↔ IsFoundTip ancestry.tips.items found oid)
    → IsRow m tips new row
found_row m tips ancestry j new found row h at searched is old among = (
  λ t. let f = (is old).0 t in (h.told f.0 j old new f.1 at).0 ((searched f.0 (slice_get_within ancestry.tips.items f.0 old f.1)).0 f.2),
  λ r. let place = place_of ancestry.tips.items old (h.has old among) in
      (is old).1 (place.0, place.1, (searched place.0 (slice_get_within ancestry.tips.items place.0 old place.1)).1 ((h.told place.0 j old new place.1 at).1 r)),
)

-- rows of the different tips are rows of the tips
pub rows_among : (m : ObjectMap) (tips : List Oid) (ancestry : Ancestry) (rows : BTreeMap Oid (BTreeSet Oid))
    → IsAncestry m tips ancestry → AreRows m tips ancestry.tips.items rows → AreRows m tips tips rows
rows_among m tips ancestry rows h are = record {
  right = are.right;
  there = λ new c. are.there new (h.has new c);
}
