-- Items at their places on lists that grow at their ends.
use Rattle.std.proofs.Common.{◌≡◌, ℕ, zero, suc, ◌<◌, ◌≤◌, List, [], ◌∷◌, ◌++◌, length, get_or, Some, refl, sym, ap, subst, inl, inr, ◌⊎◌, ⊎_elim, ◌∙◌, arith, length-append}
use Rattle.std.proofs.Math.ListN.{get_or-append}
use Rattle.std.proofs.lemmas.Bool.{cases_lt}
use Rattle.std.proofs.lemmas.List.{get_or_push}
use Rattle.std.proofs.lemmas.Option.{slice_get_within, slice_get-get_or, get_or_from_slice_get}
use Rattle.std.specs.Prelude.{Contains, slice_get}
use Rattle.rad_base.proofs.EachItem.{lacks_other}
use Rattle.rad_base.proofs.Members.{contains_at}
use Rattle.rad_base.proofs.Options.{some_is}
use Rattle.rad_base.specs.Lists.{AllDiffer}
use Rattle.commit_graph.specs.Lists.{Adds, Extends}

-- an item stays at its place
pub at_kept : {X : Type 0} (xs ys : List X) (i : ℕ) (x : X) → slice_get xs i ≡ Some x
    → slice_get (xs ++ ys) i ≡ Some x
at_kept xs ys i x e =
    let within : i < length xs = slice_get_within xs i x e in
    slice_get-get_or (xs ++ ys) i x (omega (arith, within, length-append xs ys))
    ∙ ap Some (get_or-append xs ys x i within ∙ get_or_from_slice_get xs i x x e)

-- a new item stands at the end
pub at_end : {X : Type 0} (xs : List X) (x : X) → slice_get (xs ++ x ∷ []) (length xs) ≡ Some x
at_end xs x =
    slice_get-get_or (xs ++ x ∷ []) (length xs) x (omega (arith, length-append xs (x ∷ [])))
    ∙ ap Some (get_or_push xs x x (length xs) refl)

-- what stands at a place stood there before, or is the new item
pub at_push_cases : {X : Type 0} (xs : List X) (x : X) (i : ℕ) (y : X)
    → slice_get (xs ++ x ∷ []) i ≡ Some y → (slice_get xs i ≡ Some y) ⊎ ((i ≡ length xs) × (x ≡ y))
at_push_cases {X} xs x i y e =
    let within : i < length (xs ++ x ∷ []) = slice_get_within (xs ++ x ∷ []) i y e in
    ⊎_elim
    (λ (l : i < length xs). inl (some_same (at_kept xs (x ∷ []) i (get_or xs i y) (slice_get-get_or xs i y l)) l))
    (λ (g : length xs ≤ i).
    let last : i ≡ length xs = omega (arith, g, within, length-append xs (x ∷ [])) in
    inr (last, some_is x y (sym (at_end xs x) ∙ ap (slice_get (xs ++ x ∷ [])) (sym last) ∙ e)))
    (cases_lt i (length xs))
  where
    some_same : slice_get (xs ++ x ∷ []) i ≡ Some (get_or xs i y) → i < length xs → slice_get xs i ≡ Some y
    some_same f l = slice_get-get_or xs i y l ∙ sym f ∙ e

-- an item of a list has a place
pub place_of : {X : Type 0} (xs : List X) (x : X) → Contains xs x
    → (i : ℕ) × (slice_get xs i ≡ Some x)
place_of xs x c = (c.0, slice_get-get_or xs c.0 x c.1 ∙ ap Some c.2)

-- of items that differ each has one place
pub one_place : {X : Type 0} (xs : List X) (i j : ℕ) (x : X) → AllDiffer xs
    → slice_get xs i ≡ Some x → slice_get xs j ≡ Some x → i ≡ j
one_place [] i j x differ a b = cc a
one_place (y ∷ ys) zero zero x differ a b = refl
one_place {X} (y ∷ ys) zero (suc j) x differ a b =
    absurd (lacks_other y ys differ.0 (subst (Contains ys) (sym (some_is y x a)) (contains_at ys j x b)))
one_place {X} (y ∷ ys) (suc i) zero x differ a b =
    absurd (lacks_other y ys differ.0 (subst (Contains ys) (sym (some_is y x b)) (contains_at ys i x a)))
one_place (y ∷ ys) (suc i) (suc j) x differ a b = ap suc (one_place ys i j x differ.1 a b)

-- an item stays where it is as another is added
pub adds_at : {X : Type 0} {old new : List X} {x : X} → Adds old x new → (i : ℕ) (y : X)
    → slice_get old i ≡ Some y → slice_get new i ≡ Some y
adds_at {X} {old} {new} {x} (inl h) i y e = ap (λ (xs : List X). slice_get xs i) h.1 ∙ e
adds_at {X} {old} {new} {x} (inr h) i y e = ap (λ (xs : List X). slice_get xs i) h.1 ∙ at_kept old (x ∷ []) i y e

pub extends_at : {X : Type 0} {old names new : List X} → Extends old names new → (i : ℕ) (y : X)
    → slice_get old i ≡ Some y → slice_get new i ≡ Some y
extends_at {X} {old} {names} {new} h i y e = ap (λ (xs : List X). slice_get xs i) h.is ∙ at_kept old h.more i y e
