-- Searches that end at some numbers, and rows of what they find.
use Rattle.std.proofs.Common.{◌≡◌, ◌≢◌, ℕ, ◌<◌, ◌≤◌, List, [], ◌∷◌, ◌++◌, ◌↔◌, length, Some, refl, sym, ap, subst, inl, inr, ◌⊎◌, ⊎_elim, ◌∙◌, arith}
use Rattle.std.proofs.lemmas.Bool.{cases_lt}
use Rattle.std.proofs.lemmas.Option.{slice_get-get_or}
use Rattle.std.proofs.Common.{get_or}
use Rattle.std.specs.Prelude.{Contains, slice_get}
use Rattle.rad_base.proofs.Members.{contains_nothing, contains_head, contains_one, contains_at}
use Rattle.commit_graph.proofs.Walked.{reached_along, reached_root, reached_stays, reached_step}
use Rattle.commit_graph.specs.Walks.{Reached}
use Rattle.canonical_head.proofs.Marking.{HasBelow, same_or_other}
use Rattle.canonical_head.proofs.Places.{at_push_cases}
use Rattle.canonical_head.specs.Ancestries.{IsNext, IsNextFrom, LeadAlike}

-- a search that ends nowhere is one over the rows
from_nowhere : (rows : List (List ℕ)) (j i : ℕ)
    → Reached (IsNextFrom rows j 0) (j ∷ []) i ↔ Reached (IsNext rows) (j ∷ []) i
from_nowhere rows j i = (
  reached_along (λ a b s. s.next) i,
  reached_along (λ a b s. record { next = s; on = inr (omega arith) }) i,
)

-- each row has the numbers below the limit that a search from its number finds
pub record AreShort (rows : List (List ℕ)) (count : ℕ) (short : List (List ℕ)) : Type 0 where
  pub each : (a : ℕ) (row : List ℕ) → slice_get short a ≡ Some row → (b : ℕ)
      → Contains row b ↔ ((b < count) × Reached (IsNextFrom rows a count) (a ∷ []) b)

pub short_none : (rows : List (List ℕ)) (count : ℕ) (short : List (List ℕ)) → short ≡ [] → AreShort rows count short
short_none rows count short e = record {
  each = λ a row there. absurd (contains_nothing row (subst (λ (xs : List (List ℕ)). Contains xs row) e (contains_at short a row there)));
}

-- one row more, of what was found
pub short_more : (rows : List (List ℕ)) (count : ℕ) (short short' : List (List ℕ)) (list found : List ℕ) (n : ℕ)
    → length short ≡ n → short' ≡ short ++ list ∷ [] → HasBelow found list count
    → ((b : ℕ) → Contains found b ↔ Reached (IsNextFrom rows n count) (n ∷ []) b)
    → AreShort rows count short → AreShort rows count short'
short_more rows count short short' list found n turns e below searched h = record {
  each = λ a row there b. ⊎_elim
      (λ (before : slice_get short a ≡ Some row). h.each a row before b)
      (λ (last : (a ≡ length short) × (list ≡ row)).
      let here : n ≡ a = sym turns ∙ sym last.0 in
      subst (λ (k : ℕ). Contains row b ↔ ((b < count) × Reached (IsNextFrom rows k count) (k ∷ []) b)) here
      (subst (λ (xs : List ℕ). Contains xs b ↔ ((b < count) × Reached (IsNextFrom rows n count) (n ∷ []) b)) last.1
      (λ c. let r = (below b).0 c in (r.0, (searched b).0 r.1), λ r. (below b).1 (r.0, (searched b).1 r.1))))
      (at_push_cases short list a row (ap (λ (xs : List (List ℕ)). slice_get xs a) (sym e) ∙ there));
}

module _ (rows : List (List ℕ)) (count : ℕ) (short : List (List ℕ)) (many : length short ≡ count)
    (are : AreShort rows count short) where
  -- what a short row has is reached
  step_reached : (j a b : ℕ) → Reached (IsNext rows) (j ∷ []) a → IsNext short a b → Reached (IsNext rows) (j ∷ []) b
  step_reached j a b h s =
      reached_stays (λ (c : ℕ). Reached (IsNext rows) (j ∷ []) c)
      (λ c r. subst (λ (d : ℕ). Reached (IsNext rows) (j ∷ []) d) (contains_one a c r) h)
      (λ c d r t. reached_step c d r t.next)
      b ((are.each a s.row s.there b).0 s.among).1

  -- what is found below the limit stands in a short row
  short_step : (a b : ℕ) → a < count → b < count → Reached (IsNextFrom rows a count) (a ∷ []) b → IsNext short a b
  short_step a b la lb r =
      let there : slice_get short a ≡ Some (get_or short a []) = slice_get-get_or short a [] (omega (arith, la, many)) in
      record { row = get_or short a []; there = there; among = (are.each a (get_or short a []) there b).1 (lb, r) }

  -- short rows lead to a number from which a search comes here
  Behind : ℕ → ℕ → Type 0
  Behind j b = (a : ℕ) × (a < count) × Reached (IsNext short) (j ∷ []) a × Reached (IsNextFrom rows a count) (a ∷ []) b

  behind_step : (j b c : ℕ) → Behind j b → IsNext rows b c → Behind j c
  unfolding Behind
  behind_step j b c h s =
      ⊎_elim
      (λ (far : count ≤ b). (h.0, h.1, h.2, reached_step b c h.3 (record { next = s; on = inr far })))
      (λ (near : b < count). ⊎_elim
      (λ (same : b ≡ h.0). (h.0, h.1, h.2, reached_step b c h.3 (record { next = s; on = inl same })))
      (λ (other : b ≢ h.0). (
        b,
        near,
        reached_step h.0 b h.2 (short_step h.0 b h.1 near h.3),
        reached_step b c (reached_root b (contains_head b [])) (record { next = s; on = inl refl }),
      ))
      (same_or_other b h.0))
      (far_or_near b)
    where
      far_or_near : (n : ℕ) → (count ≤ n) ⊎ (n < count)
      far_or_near n = ⊎_elim (λ (l : n < count). inr l) (λ (g : count ≤ n). inl g) (cases_lt n count)

  reached_short : (j i : ℕ) → j < count → i < count → Reached (IsNext rows) (j ∷ []) i → Reached (IsNext short) (j ∷ []) i
  unfolding Behind
  reached_short j i lj li r =
      let h = reached_stays (Behind j)
      (λ b c. (j, lj, reached_root j (contains_head j []), reached_root b (subst (Contains (j ∷ [])) refl c)))
      (behind_step j) i r in
      reached_step h.0 i h.2 (short_step h.0 i h.1 li h.3)

  -- the short rows lead to the same numbers below the limit
  pub lead_alike : LeadAlike rows count short
  lead_alike = record {
    counted = many;
    inside = λ a b s. omega (arith, many, ((are.each a s.row s.there b).0 s.among).0);
    alike = λ i j li lj. (
      reached_stays (λ (b : ℕ). Reached (IsNext rows) (j ∷ []) b) (λ b c. reached_root b c) (step_reached j) i,
      reached_short j i lj li,
    );
  }

-- so what a search over the short rows finds below the limit is what the rows lead to
pub found_alike : (rows : List (List ℕ)) (count : ℕ) (short : List (List ℕ)) → LeadAlike rows count short
    → (found : List ℕ) (j : ℕ) → j < count
    → ((b : ℕ) → Contains found b ↔ Reached (IsNextFrom short j 0) (j ∷ []) b) → (k : ℕ) → k < count
    → Contains found k ↔ Reached (IsNext rows) (j ∷ []) k
found_alike rows count short h found j lj searched k lk = (
  λ c. (h.alike k j lk lj).0 ((from_nowhere short j k).0 ((searched k).0 c)),
  λ r. (searched k).1 ((from_nowhere short j k).1 ((h.alike k j lk lj).1 r)),
)
