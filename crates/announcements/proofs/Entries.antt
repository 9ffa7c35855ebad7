-- What a table keeps, as the list of its places that are not empty.
use Rattle.std.proofs.Common.{◌≡◌, ◌≢◌, ℕ, ◌≤◌, ◌+◌, Bool, true, false, cond, List, [], ◌∷◌, ◌++◌, length, Option, Some, None, Result, Ok, Err, refl, sym, ap, subst, ⊎_elim, inl, inr, ◌⊎◌, ◌∙◌, arith}
use Rattle.std.specs.Prelude.{Contains, filter, map, ◌↔◌, IsSome, OnOk, OnErr, is_some}
use Rattle.std.specs.BTreeMap.{BTreeMap, Updates, get, is_at}
use Rattle.std.specs.List.{AllByRecursion}
use Rattle.std.specs.List.Sorted.{IsStrictlySortedBy}
use Rattle.std.specs.Map.{keys_of, lookup}
use Rattle.std.specs.Option.{option_and_then}
use Rattle.std.specs.declared.cmp.Ordering.{Ordering}
use Rattle.std.specs.declared.cmp.Ordering.TheVariants.{Less}
use Rattle.std.proofs.lemmas.Bool.{false≢true}
use Rattle.std.proofs.lemmas.Cmp.{eq_by_cmp_equiv}
use Rattle.std.proofs.lemmas.Map.Keys.{IsDistinct-from_sorted}
use Rattle.std.proofs.lemmas.Map.Views.{Contains-from_lookup, lookup-from_Contains}
use Rattle.rad_base.proofs.Members.{contains_cases, contains_head, contains_nothing, contains_tail}
use Rattle.rad_base.proofs.NameOrder.{apart, equal_from_is_eq}
use Rattle.rad_base.proofs.Options.{not_nothing, some_is}
use Rattle.rad_base.specs.Order.{RisesBy}
use Rattle.announcements.specs.Held.{kept_at, map_cmp}
use Rattle.announcements.specs.Keys.{key_cmp}
use Rattle.announcements.specs.Tables.{AreKept, IsSame, Keeps, is_wanted}
use Rattle.announcements.specs.declared.kept.Kept.{Kept}
use Rattle.announcements.specs.declared.key.Key.{Key}
use Rattle.announcements.proofs.KeyOrder.{as_parts, map_exact, map_total}

abbrev pub Places : Type 0
Places = List (Key × Option Kept)

abbrev pub Map : Type 0
Map = BTreeMap Key (Option Kept)

-- what a place keeps, in front of what others keep
abbrev pub with_kept : Key → Option Kept → List (Key × Kept) → List (Key × Kept)
with_kept key None more = more
with_kept key (Some kept) more = (key, kept) ∷ more

-- what places keep
abbrev pub kept_entries : Places → List (Key × Kept)
kept_entries [] = []
kept_entries (place ∷ places) = with_kept place.0 place.1 (kept_entries places)

-- ------ which are kept

abbrev IsOne : Key × Option Kept → Key × Option Kept → Type 0
IsOne a b = a ≡ b

kept_from : (key place : Key) (o : Option Kept) (kept : Kept) (more : List (Key × Kept))
    → Contains (with_kept place o more) (key, kept) → IsOne (place, o) (key, Some kept) ⊎ Contains more (key, kept)
kept_from key place None kept more h = inr h
kept_from key place (Some other) kept more h =
    ⊎_elim (λ a. inl (ap (λ (e : Key × Kept). (e.0, Some e.1)) a)) (λ a. inr a) (contains_cases (place, other) more (key, kept) h)

pub stands_from : (places : Places) (key : Key) (kept : Kept) → Contains (kept_entries places) (key, kept) → Contains places (key, Some kept)
stands_from [] key kept h = absurd (contains_nothing (key, kept) h)
stands_from (p ∷ places) key kept h =
    ⊎_elim (λ a. subst (λ (e : Key × Option Kept). Contains (p ∷ places) e) a (contains_head p places))
    (λ a. contains_tail p places (key, Some kept) (stands_from places key kept a))
    (kept_from key p.0 p.1 kept (kept_entries places) h)

kept_behind : (place : Key) (o : Option Kept) (more : List (Key × Kept)) (e : Key × Kept) → Contains more e → Contains (with_kept place o more) e
kept_behind place None more e h = h
kept_behind place (Some kept) more e h = contains_tail (place, kept) more e h

pub stands_as : (places : Places) (key : Key) (kept : Kept) → Contains places (key, Some kept) → Contains (kept_entries places) (key, kept)
stands_as [] key kept h = absurd (contains_nothing (key, Some kept) h)
stands_as (p ∷ places) key kept h =
    ⊎_elim (λ a. subst (λ (e : Key × Option Kept). Contains (with_kept e.0 e.1 (kept_entries places)) (key, kept)) (sym a) (contains_head (key, kept) (kept_entries places)))
    (λ a. kept_behind p.0 p.1 (kept_entries places) (key, kept) (stands_as places key kept a))
    (contains_cases p places (key, Some kept) h)

same_key : (a b : Key) → is_at (map_cmp a) b ≡ true → a ≡ b
same_key a b h = map_exact a b (equal_from_is_eq _ h)

holds : (o : Option (Option Kept)) (kept : Kept) → option_and_then (λ k. k) o ≡ Some kept → o ≡ Some (Some kept)
holds None kept e = cc e
holds (Some None) kept e = cc e
holds (Some (Some k)) kept e = ap (λ (x : Kept). Some (Some x)) (some_is k kept e)

-- ------ in order

-- below each of these
abbrev pub IsBelowAll : Key → List (Key × Kept) → Type 0
IsBelowAll key all = AllByRecursion (λ e. key_cmp key e.0 ≡ Less) all

below_kept : (key place : Key) (o : Option Kept) (more : List (Key × Kept)) → key_cmp key place ≡ Less → IsBelowAll key more
    → IsBelowAll key (with_kept place o more)
below_kept key place None more first rest = rest
below_kept key place (Some kept) more first rest = (first, rest)

below_all : (key : Key) (places : Places) → AllByRecursion (λ k. map_cmp key k ≡ Less) (keys_of places) → IsBelowAll key (kept_entries places)
below_all key [] h = tt
below_all key (p ∷ places) h = below_kept key p.0 p.1 (kept_entries places) (sym (as_parts key p.0) ∙ h.0) (below_all key places h.1)

rises_on : (e : Key × Kept) (all : List (Key × Kept)) → IsBelowAll e.0 all → RisesBy (λ x. x.0) key_cmp all → RisesBy (λ x. x.0) key_cmp (e ∷ all)
rises_on e [] below rising = tt
rises_on e (x ∷ all) below rising = (below.0, rising)

with_rises : (place : Key) (o : Option Kept) (more : List (Key × Kept)) → IsBelowAll place more → RisesBy (λ x. x.0) key_cmp more
    → RisesBy (λ x. x.0) key_cmp (with_kept place o more)
with_rises place None more below rising = rising
with_rises place (Some kept) more below rising = rises_on (place, kept) more below rising

kept_rises : (places : Places) → IsStrictlySortedBy map_cmp (keys_of places) → RisesBy (λ x. x.0) key_cmp (kept_entries places)
unfolding IsStrictlySortedBy
kept_rises [] h = tt
kept_rises (p ∷ places) h = with_rises p.0 p.1 (kept_entries places) (below_all p.0 places h.0) (kept_rises places h.1)

-- what the entries keep is what is kept in the places, in order
pub are_kept : (places : Map) → IsStrictlySortedBy map_cmp (keys_of places.entries) → AreKept (kept_at places) (kept_entries places.entries)
are_kept places sorted = record {
  each = λ key kept. (
    λ there. ap (option_and_then (λ k. k)) (lookup-from_Contains (eq_by_cmp_equiv map_total) key (Some kept) places.entries
        (IsDistinct-from_sorted map_cmp (keys_of places.entries) sorted) (stands_from places.entries key kept there)),
    λ found. stands_as places.entries key kept (Contains-from_lookup same_key key (Some kept) places.entries
        (holds (get map_cmp places key) kept found)),
  );
  rising = kept_rises places.entries sorted;
}

-- ------ what changes

-- an empty place more keeps nothing more
pub emptied : (old new : Map) (key : Key) → Updates map_cmp old new key (Some None) → get map_cmp old key ≡ None
    → IsSame (kept_at old) (kept_at new)
emptied old new key updates none = λ q. by_test q (is_at (map_cmp key) q) refl
  where
    by_test : (q : Key) (b : Bool) → is_at (map_cmp key) q ≡ b → kept_at new q ≡ kept_at old q
    by_test q true e =
        let one : key ≡ q = same_key key q e in
        let here : get map_cmp new q ≡ Some None = ap (get map_cmp new) (sym one) ∙ updates.1 in
        let was : get map_cmp old q ≡ None = ap (get map_cmp old) (sym one) ∙ none in
        rw (here, was) refl
    by_test q false e = ap (option_and_then (λ k. k)) (updates.2 q e)

-- what is put into a place is kept
pub keeps : (old new : Map) (key : Key) (kept : Kept) → Updates map_cmp old new key (Some (Some kept))
    → Keeps key kept (kept_at old) (kept_at new)
keeps old new key kept updates = record {
  here = ap (option_and_then (λ k. k)) updates.1;
  others = λ other different. ap (option_and_then (λ k. k)) (updates.2 other (apart map_cmp map_exact key other different));
}

-- what an insertion did that could not fail
pub done : {T E P Q : Type 0} (result : Result T E) → OnOk result P → OnErr result Q → (Q → ⊥) → P
done (Ok v) ok err never = ok
done (Err e) ok err never = absurd (never err)

-- what is not contained is absent
pub is_absent : {X : Type 0} (o : Option X) (found : Bool) → found ≡ is_some o → found ≡ false → o ≡ None
is_absent None found e h = refl
is_absent (Some x) found e h = cc (e, h)

-- what is there is not absent
pub is_there : {X : Type 0} (o : Option X) → IsSome o → o ≡ None → ⊥
is_there None there e = false≢true there
is_there (Some x) there e = not_nothing refl e
