-- Commits that get numbers.
use Rattle.std.proofs.Common.{◌≡◌, ℕ, ◌+◌, ◌<◌, Bool, true, false, cond, List, [], ◌∷◌, ◌++◌, length, take, get_or, Option, Some, None, Result, Ok, Err, refl, sym, ap, subst, ⊎_elim, ◌∙◌}
use Rattle.std.proofs.lemmas.Bool.{cases_Bool}
use Rattle.std.proofs.lemmas.List.{take_more}
use Rattle.std.proofs.lemmas.List.Elements.{Contains-append_left, Contains-push, Contains-push_cases}
use Rattle.std.proofs.lemmas.Map.Views.{tells_apart}
use Rattle.std.specs.BTreeMap.{BTreeMap, Updates, get, is_at}
use Rattle.std.specs.Prelude.{Contains, OnErr, OnOk, slice_get}
use Rattle.rad_base.proofs.EachItem.{differ_more}
use Rattle.rad_base.proofs.Members.{contains_nothing}
use Rattle.rad_base.proofs.NameOrder.{oid_exact, equals_itself}
use Rattle.rad_base.proofs.Options.{some_is}
use Rattle.rad_base.specs.declared.names.Oid.{Oid}
use Rattle.rad_base.specs.Order.{oid_cmp}
use Rattle.commit_graph.proofs.Adding.{extends_same, extends_push}
use Rattle.commit_graph.specs.Lists.{Adds}
use Rattle.canonical_head.proofs.Places.{at_kept, at_end, at_push_cases, adds_at, place_of}
use Rattle.canonical_head.specs.Ancestries.{IsNumberedAs}
use Rattle.canonical_head.specs.Numbers.{IsNumbered, AreNumbers}

-- a commit without a number is not on the list
pub numbered_lacks : (numbers : BTreeMap Oid ℕ) (commits : List Oid) (x : Oid)
    → IsNumbered numbers commits → get oid_cmp numbers x ≡ None → Contains commits x → ⊥
numbered_lacks numbers commits x h none c =
    let place = place_of commits x c in
    let there : get oid_cmp numbers x ≡ Some place.0 = (h.same x place.0).1 place.1 in
    cc (none, there)

-- one commit more, with the next number
pub numbered_push : (numbers numbers' : BTreeMap Oid ℕ) (commits : List Oid) (x : Oid)
    → IsNumbered numbers commits → get oid_cmp numbers x ≡ None
    → ((q : Oid) → get oid_cmp numbers' q ≡ cond (is_at (oid_cmp x) q) (Some (length commits)) (get oid_cmp numbers q))
    → IsNumbered numbers' (commits ++ x ∷ [])
numbered_push numbers numbers' commits x h none u = record {
  same = λ oid i. (
    λ e. ⊎_elim
        (λ (b : is_at (oid_cmp x) oid ≡ true).
        let last : length commits ≡ i = some_is (length commits) i (sym (at_one oid true b) ∙ e) in
        subst (λ (k : ℕ). slice_get (commits ++ x ∷ []) k ≡ Some oid) last
        (at_end commits x ∙ ap Some (tells_apart oid_exact x oid b)))
        (λ (b : is_at (oid_cmp x) oid ≡ false).
        at_kept commits (x ∷ []) i oid ((h.same oid i).0 (sym (at_one oid false b) ∙ e)))
        (cases_Bool (is_at (oid_cmp x) oid)),
    λ e. ⊎_elim
        (λ (old : slice_get commits i ≡ Some oid).
        let there : get oid_cmp numbers oid ≡ Some i = (h.same oid i).1 old in
        ⊎_elim
        (λ (b : is_at (oid_cmp x) oid ≡ true).
        let gone : get oid_cmp numbers oid ≡ None = ap (get oid_cmp numbers) (sym (tells_apart oid_exact x oid b)) ∙ none in
        cc (gone, there))
        (λ (b : is_at (oid_cmp x) oid ≡ false). at_one oid false b ∙ there)
        (cases_Bool (is_at (oid_cmp x) oid)))
        (λ (new : (i ≡ length commits) × (x ≡ oid)).
        let is : is_at (oid_cmp x) oid ≡ true = subst (λ (z : Oid). is_at (oid_cmp x) z ≡ true) new.1 (equals_itself x.0) in
        at_one oid true is ∙ ap Some (sym new.0))
        (at_push_cases commits x i oid e),
  );
  differ = differ_more commits x h.differ (numbered_lacks numbers commits x h none);
} where
  at_one : (oid : Oid) (b : Bool) → is_at (oid_cmp x) oid ≡ b
      → get oid_cmp numbers' oid ≡ cond b (Some (length commits)) (get oid_cmp numbers oid)
  at_one oid b e = u oid ∙ ap (λ (t : Bool). cond t (Some (length commits)) (get oid_cmp numbers oid)) e

-- no commits
pub numbered_none : (old : List Oid) (row : List ℕ) → row ≡ [] → IsNumberedAs old [] old row
numbered_none old row e = record {
  grown = extends_same refl;
  numbers = record {
    all = λ name c. absurd (contains_nothing name c);
    only = λ i c. absurd (contains_nothing i (subst (λ (xs : List ℕ). Contains xs i) e c));
  };
}

numbers_push : {cur new names : List Oid} {row : List ℕ} {x : Oid} (n : ℕ) → AreNumbers cur names row
    → Adds cur x new → slice_get new n ≡ Some x → AreNumbers new (names ++ x ∷ []) (row ++ n ∷ [])
numbers_push {cur} {new} {names} {row} {x} n h added at = record {
  all = λ name c. ⊎_elim
      (λ (old : Contains names name). let place = h.all name old in
      (place.0, Contains-append_left row (n ∷ []) place.0 place.1, adds_at added place.0 name place.2))
      (λ (same : x ≡ name). (n, Contains-push row n, at ∙ ap Some same))
      (Contains-push_cases names x name c);
  only = λ i c. ⊎_elim
      (λ (old : Contains row i). let named = h.only i old in
      (named.0, Contains-append_left names (x ∷ []) named.0 named.1, adds_at added i named.0 named.2))
      (λ (same : n ≡ i). (x, Contains-push names x, ap (slice_get new) (sym same) ∙ at))
      (Contains-push_cases row n i c);
}

-- one turn of a loop over the commits
pub numbered_more : {old cur new : List Oid} {row row' : List ℕ} (names : List Oid) (i : ℕ) (d : Oid) (n : ℕ) → i < length names
    → IsNumberedAs old (take i names) cur row → Adds cur (get_or names i d) new
    → slice_get new n ≡ Some (get_or names i d) → row' ≡ row ++ n ∷ []
    → IsNumberedAs old (take (i + 1) names) new row'
numbered_more {old} {cur} {new} {row} {row'} names i d n l h added at e =
    subst (λ (ks : List ℕ). IsNumberedAs old (take (i + 1) names) new ks) (sym e)
    (subst (λ (xs : List Oid). IsNumberedAs old xs new (row ++ n ∷ [])) (sym (take_more names i d l))
    (record { grown = extends_push h.grown added; numbers = numbers_push n h.numbers added at }))

-- a number that was changed and changed back leaves all as it was
put_back : (numbers changed back : BTreeMap Oid ℕ) (x : Oid) (old new : Option ℕ) → get oid_cmp numbers x ≡ old
    → ((q : Oid) → get oid_cmp changed q ≡ cond (is_at (oid_cmp x) q) new (get oid_cmp numbers q))
    → ((q : Oid) → get oid_cmp back q ≡ cond (is_at (oid_cmp x) q) old (get oid_cmp changed q))
    → (q : Oid) → get oid_cmp back q ≡ get oid_cmp numbers q
put_back numbers changed back x old new was u v q = ⊎_elim
    (λ (b : is_at (oid_cmp x) q ≡ true).
    v q ∙ ap (λ (t : Bool). cond t old (get oid_cmp changed q)) b ∙ sym was ∙ ap (get oid_cmp numbers) (tells_apart oid_exact x q b))
    (λ (b : is_at (oid_cmp x) q ≡ false).
    v q ∙ ap (λ (t : Bool). cond t old (get oid_cmp changed q)) b ∙ u q ∙ ap (λ (t : Bool). cond t new (get oid_cmp numbers q)) b)
    (cases_Bool (is_at (oid_cmp x) q))

numbered_same : (numbers back : BTreeMap Oid ℕ) (commits : List Oid) → ((q : Oid) → get oid_cmp back q ≡ get oid_cmp numbers q)
    → IsNumbered numbers commits → IsNumbered back commits
numbered_same numbers back commits u h = record {
  same = λ oid i. (λ e. (h.same oid i).0 (sym (u oid) ∙ e), λ e. u oid ∙ (h.same oid i).1 e);
  differ = h.differ;
}

-- a new number is taken back
pub numbered_back : (numbers changed back : BTreeMap Oid ℕ) (commits : List Oid) (x : Oid) (new : Option ℕ)
    → IsNumbered numbers commits → get oid_cmp numbers x ≡ None
    → ((q : Oid) → get oid_cmp changed q ≡ cond (is_at (oid_cmp x) q) new (get oid_cmp numbers q))
    → ((q : Oid) → get oid_cmp back q ≡ cond (is_at (oid_cmp x) q) None (get oid_cmp changed q))
    → IsNumbered back commits
numbered_back numbers changed back commits x new h was u v =
    numbered_same numbers back commits (put_back numbers changed back x None new was u v) h

-- a commit that was there gets its number again, which takes no memory
pub numbered_again : {E : Type 0} (numbers changed back : BTreeMap Oid ℕ) (commits : List Oid) (x : Oid) (old new : ℕ)
    (result : Result (Option ℕ) E) → IsNumbered numbers commits → get oid_cmp numbers x ≡ Some old
    → ((q : Oid) → get oid_cmp changed q ≡ cond (is_at (oid_cmp x) q) (Some new) (get oid_cmp numbers q))
    → OnOk result (Updates oid_cmp changed back x (Some old)) → OnErr result (get oid_cmp changed x ≡ None)
    → IsNumbered back commits
numbered_again numbers changed back commits x old new (Ok found) h was u v gone =
    numbered_same numbers back commits (put_back numbers changed back x (Some old) (Some new) was u v.0) h
numbered_again numbers changed back commits x old new (Err why) h was u v gone =
    let there : get oid_cmp changed x ≡ Some new =
    u x ∙ ap (λ (t : Bool). cond t (Some new) (get oid_cmp numbers x)) (equals_itself x.0) in
    cc (there, gone)

-- what is no value is none
pub none_left : {X : Type 0} (found : Option X) → ((x : X) → found ≡ Some x → ⊥) → found ≡ None
none_left None never = refl
none_left (Some x) never = absurd (never x refl)
