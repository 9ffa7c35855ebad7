-- Numbers that get marks.
use Rattle.std.proofs.Common.{◌≡◌, ◌≢◌, ℕ, ◌+◌, ◌<◌, ◌≤◌, Bool, true, List, [], ◌∷◌, ◌++◌, length, get_or, set, Some, sym, ap, subst, inl, inr, ◌⊎◌, ⊎_elim, ◌∙◌, arith, get_or-set_same, get_or-set_other, ◌↔◌}
use Rattle.std.proofs.Math.ListN.{length-set}
use Rattle.std.proofs.lemmas.Bool.{cases_lt}
use Rattle.std.proofs.lemmas.List.Elements.{Contains-append_left, Contains-push, Contains-push_cases}
use Rattle.std.proofs.lemmas.Option.{slice_get_within, slice_get-get_or, get_or_from_slice_get}
use Rattle.std.specs.Prelude.{Contains, slice_get}
use Rattle.rad_base.proofs.Members.{contains_nothing}
use Rattle.canonical_head.specs.Marks.{IsMarking}

-- numbers are one or two
pub same_or_other : (a b : ℕ) → (a ≡ b) ⊎ (a ≢ b)
same_or_other a b =
    ⊎_elim
    (λ (l : a < b). inr (λ e. omega (arith, l, e)))
    (λ (g : b ≤ a). ⊎_elim (λ (l : b < a). inr (λ e. omega (arith, l, e))) (λ (h : a ≤ b). inl (omega (arith, g, h))) (cases_lt b a))
    (cases_lt a b)

set_same : (marks : List Bool) (n : ℕ) → n < length marks → slice_get (set marks n true) n ≡ Some true
set_same marks n l =
    slice_get-get_or (set marks n true) n true (omega (arith, l, length-set {A = Bool}))
    ∙ ap Some (get_or-set_same marks n true true l)

set_other : (marks : List Bool) (n i : ℕ) → i ≢ n → i < length marks
    → slice_get (set marks n true) i ≡ slice_get marks i
set_other marks n i ne l =
    slice_get-get_or (set marks n true) i true (omega (arith, l, length-set {A = Bool}))
    ∙ ap Some (get_or-set_other marks n i true true ne)
    ∙ sym (slice_get-get_or marks i true l)

-- one number more
pub marking_push : (marks : List Bool) (found : List ℕ) (n : ℕ) → n < length marks
    → IsMarking marks found → IsMarking (set marks n true) (found ++ n ∷ [])
marking_push marks found n l h i = (
  λ e. ⊎_elim
      (λ (same : i ≡ n). subst (Contains (found ++ n ∷ [])) (sym same) (Contains-push found n))
      (λ (ne : i ≢ n).
      let within : i < length marks = omega (arith, slice_get_within (set marks n true) i true e, length-set {A = Bool}) in
      Contains-append_left found (n ∷ []) i ((h i).0 (sym (set_other marks n i ne within) ∙ e)))
      (same_or_other i n),
  λ c. ⊎_elim
      (λ (same : i ≡ n). subst (λ (k : ℕ). slice_get (set marks n true) k ≡ Some true) (sym same) (set_same marks n l))
      (λ (ne : i ≢ n). ⊎_elim
      (λ (old : Contains found i).
      let there : slice_get marks i ≡ Some true = (h i).1 old in
      set_other marks n i ne (slice_get_within marks i true there) ∙ there)
      (λ (new : n ≡ i). absurd (ne (sym new)))
      (Contains-push_cases found n i c))
      (same_or_other i n),
)

-- a number that was found is marked
pub found_marked : (marks : List Bool) (found : List ℕ) (n : ℕ) (mark : Bool)
    → mark ≡ get_or marks n mark → IsMarking marks found → Contains found n → mark ≡ true
found_marked marks found n mark at h c = at ∙ get_or_from_slice_get marks n true mark ((h n).1 c)

-- and below the limit
pub found_below : (marks : List Bool) (found : List ℕ) (n : ℕ) → IsMarking marks found
    → Contains found n → n < length marks
found_below marks found n h c = slice_get_within marks n true ((h n).1 c)

-- the list has the numbers below n that were found
abbrev pub HasBelow : List ℕ → List ℕ → ℕ → Type 0
HasBelow found list n = (b : ℕ) → Contains list b ↔ ((b < n) × Contains found b)

-- below nothing
pub below_none : (found list : List ℕ) → list ≡ [] → HasBelow found list 0
below_none found list e b = (
  λ c. absurd (contains_nothing b (subst (λ (xs : List ℕ). Contains xs b) e c)),
  λ r. absurd (omega (arith, r.0)),
)

-- one number more, which was found or not
pub below_push : (found list list' : List ℕ) (n : ℕ)
    → (Contains found n × (list' ≡ list ++ n ∷ [])) ⊎ ((Contains found n → ⊥) × (list' ≡ list))
    → HasBelow found list n → HasBelow found list' (n + 1)
below_push found list list' n (inl (has, e)) h b = (
  λ c. ⊎_elim
      (λ (old : Contains list b). let r = (h b).0 old in (omega (arith, r.0), r.1))
      (λ (same : n ≡ b). (omega (arith, same), subst (Contains found) same has))
      (Contains-push_cases list n b (subst (λ (xs : List ℕ). Contains xs b) e c)),
  λ r. subst (λ (xs : List ℕ). Contains xs b) (sym e) (⊎_elim
      (λ (same : b ≡ n). subst (Contains (list ++ n ∷ [])) (sym same) (Contains-push list n))
      (λ (ne : b ≢ n). Contains-append_left list (n ∷ []) b ((h b).1 (below_other b n ne r.0, r.1)))
      (same_or_other b n)),
) where
  below_other : (a k : ℕ) → a ≢ k → a < k + 1 → a < k
  below_other a k ne l = omega (arith, ne, l)
below_push found list list' n (inr (lacks, e)) h b = (
  λ c. let r = (h b).0 (subst (λ (xs : List ℕ). Contains xs b) e c) in (omega (arith, r.0), r.1),
  λ r. subst (λ (xs : List ℕ). Contains xs b) (sym e) (⊎_elim
      (λ (same : b ≡ n). absurd (lacks (subst (Contains found) same r.1)))
      (λ (ne : b ≢ n). (h b).1 (below_other b n ne r.0, r.1))
      (same_or_other b n)),
) where
  below_other : (a k : ℕ) → a ≢ k → a < k + 1 → a < k
  below_other a k ne l = omega (arith, ne, l)
