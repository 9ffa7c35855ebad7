-- Sets of names, and the names that they lack.
use Rattle.std.proofs.Common.{◌≡◌, ℕ, ◌+◌, ◌<◌, Bool, true, false, not, cond, List, [], ◌∷◌, ◌++◌, length, take, get_or, sym, ap, subst, ⊎_elim, ◌∙◌, refl}
use Rattle.std.specs.Prelude.{Contains, ◌↔◌, filter}
use Rattle.std.specs.BTreeSet.{BTreeSet, contains}
use Rattle.std.specs.BTreeMap.{is_at}
use Rattle.std.specs.List.{AllByRecursion}
use Rattle.std.specs.List.Sorted.{IsStrictlySortedBy}
use Rattle.std.specs.declared.cmp.Ordering.TheVariants.{Less}
use Rattle.std.proofs.lemmas.Bool.{cases_Bool}
use Rattle.std.proofs.lemmas.List.{take_more}
use Rattle.std.proofs.lemmas.List.Elements.{Contains-append_left, Contains-push, Contains-push_cases}
use Rattle.std.proofs.lemmas.Map.Views.{tells_apart}
use Rattle.rad_base.specs.declared.names.Oid.{Oid}
use Rattle.rad_base.specs.Order.{oid_cmp}
use Rattle.rad_base.proofs.Members.{filter_from, filter_has}
use Rattle.rad_base.proofs.NameOrder.{oid_exact, equals_itself}
use Rattle.commit_graph.specs.declared.root.Root.{Root}
use Rattle.commit_graph.specs.Closures.{IsReachedName}
use Rattle.commit_graph.specs.Objects.{ObjectMap}
use Rattle.fetch_serve.specs.Parts.{AreBeyond, HasNames, is_beyond}

-- ---- sets

set_push : (now new : BTreeSet Oid) (names : List Oid) (x : Oid)
    → ((q : Oid) → contains oid_cmp new q ≡ cond (is_at (oid_cmp x) q) true (contains oid_cmp now q)) → HasNames now names → HasNames new (names ++ x ∷ [])
set_push now new names x u h oid = (
  λ k. ⊎_elim
      (λ b. subst (λ (z : Oid). Contains (names ++ x ∷ []) z) (tells_apart oid_exact x oid b) (Contains-push names x))
      (λ b. Contains-append_left names (x ∷ []) oid ((h oid).0 (sym (u oid ∙ ap (λ (t : Bool). cond t true (contains oid_cmp now oid)) b) ∙ k)))
      (cases_Bool (is_at (oid_cmp x) oid)),
  λ k. ⊎_elim
      (λ b. u oid ∙ ap (λ (t : Bool). cond t true (contains oid_cmp now oid)) b)
      (λ b. u oid ∙ ap (λ (t : Bool). cond t true (contains oid_cmp now oid)) b ∙ ⊎_elim (λ c. (h oid).1 c)
      (λ c. let same : is_at (oid_cmp x) oid ≡ true = subst (λ (z : Oid). is_at (oid_cmp x) z ≡ true) c (equals_itself x.0) in absurd (cc (same, b)))
      (Contains-push_cases names x oid k))
      (cases_Bool (is_at (oid_cmp x) oid)),
)

-- one turn of a loop over the names
pub set_turn : (now new : BTreeSet Oid) (names : List Oid) (i : ℕ) (d : Oid) → i < length names
    → ((q : Oid) → contains oid_cmp new q ≡ cond (is_at (oid_cmp (get_or names i d)) q) true (contains oid_cmp now q))
    → HasNames now (take i names) → HasNames new (take (i + 1) names)
set_turn now new names i d inside u h =
    subst (λ (xs : List Oid). HasNames new xs) (sym (take_more names i d inside)) (set_push now new (take i names) (get_or names i d) u h)

-- ---- names that pass a test

pass_each : (P : Oid → Type 0) (p : Oid → Bool) (xs : List Oid) → AllByRecursion P xs → AllByRecursion P (filter p xs)
pass_each P p [] each = tt
pass_each P p (x ∷ xs) each = by_test (p x) (pass_each P p xs each.1)
  where
    by_test : (b : Bool) → AllByRecursion P (filter p xs) → AllByRecursion P (cond b (x ∷ filter p xs) (filter p xs))
    by_test true later = (each.0, later)
    by_test false later = later

-- they rise as all do
pass_rises : (p : Oid → Bool) (xs : List Oid) → IsStrictlySortedBy oid_cmp xs → IsStrictlySortedBy oid_cmp (filter p xs)
unfolding IsStrictlySortedBy
pass_rises p [] rising = rising
pass_rises p (x ∷ xs) rising = by_test (p x) (pass_rises p xs rising.1)
  where
    by_test : (b : Bool) → IsStrictlySortedBy oid_cmp (filter p xs) → IsStrictlySortedBy oid_cmp (cond b (x ∷ filter p xs) (filter p xs))
    by_test true later = (pass_each (λ y. oid_cmp x y ≡ Less) p xs rising.0, later)
    by_test false later = later

lacks_it : (set : BTreeSet Oid) (names : List Oid) (oid : Oid) → HasNames set names → is_beyond set oid ≡ true → Contains names oid → ⊥
lacks_it set names oid are beyond has = by_test (contains oid_cmp set oid) ((are oid).1 has) beyond
  where
    by_test : (b : Bool) → b ≡ true → not b ≡ true → ⊥
    by_test true e f = cc f
    by_test false e f = cc e

is_lacked : (set : BTreeSet Oid) (names : List Oid) (oid : Oid) → HasNames set names → (Contains names oid → ⊥) → is_beyond set oid ≡ true
is_lacked set names oid are none = by_test (contains oid_cmp set oid) refl
  where
    by_test : (b : Bool) → contains oid_cmp set oid ≡ b → not b ≡ true
    by_test true e = absurd (none ((are oid).0 e))
    by_test false e = refl

-- those of the wanted names that the set of the others lacks
pub names_beyond : (m : ObjectMap) (asked had : List Root) (wanted known names : List Oid) (set : BTreeSet Oid)
    → IsStrictlySortedBy oid_cmp wanted
    → ((oid : Oid) → Contains wanted oid ↔ IsReachedName m asked oid) → ((oid : Oid) → Contains known oid ↔ IsReachedName m had oid)
    → HasNames set known → names ≡ filter (is_beyond set) wanted → AreBeyond m asked had names
names_beyond m asked had wanted known names set rising all others are is = record {
  rising = subst (IsStrictlySortedBy oid_cmp) (sym is) (pass_rises (is_beyond set) wanted rising);
  exact = λ oid. (
    λ h. let from = filter_from (is_beyond set) wanted oid (subst (λ (xs : List Oid). Contains xs oid) is h) in
        ((all oid).0 from.0, λ r. lacks_it set known oid are from.1 ((others oid).1 r)),
    λ h. subst (λ (xs : List Oid). Contains xs oid) (sym is)
        (filter_has (is_beyond set) wanted oid ((all oid).1 h.0) (is_lacked set known oid are (λ k. h.1 ((others oid).0 k)))),
  );
}
