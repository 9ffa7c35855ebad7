-- The numbers of a view, and the entries that were made under them.
use Rattle.std.proofs.Common.{◌≡◌, ◌≢◌, ℕ, ◌+◌, ◌<◌, ◌≤◌, Bool, true, false, List, [], ◌∷◌, ◌++◌, All, eqb, ltb, cond, if◌then◌else◌, length, map, sym, refl, ap, ◌∙◌, subst, arith, eq-eqb, ne_eqb, append_assoc, append-nil, length-append}
use Rattle.std.specs.List.{sum_by}
use Rattle.std.specs.Prelude.{Contains}
use Rattle.std.proofs.lemmas.List.Sums.{sum_by-cons, sum_by-append}
use Rattle.std.proofs.lemmas.List.Elements.{All-nil, All-cons, All-head, All-tail, filter-append}
use Rattle.std.proofs.lemmas.Bool.{lt-ltb, le-ltb}
use mathlib.Core.Logic.{dite}
use native.Mathlib.Decide.{ℕ_discrete, dec_lt}
use Rattle.turn_lock.specs.declared.view.View.{View}
use Rattle.turn_lock.specs.declared.view.Made.{Made}
use Rattle.turn_lock.specs.Views.{one_if, made_by, made_lists, own_list, numbers_of, times, both_of}
use Rattle.rad_base.proofs.Members.{contains_head, contains_tail}

pub one_if_at_most : (b : Bool) → one_if b ≤ 1
one_if_at_most true = omega arith
one_if_at_most false = omega arith

-- a number that is below the next one counts once
pub below_counts : (n names : ℕ) → n < names → one_if (ltb n names) ≡ 1
below_counts n names less = ap one_if (lt-ltb n names less)

-- and one that is not counts nothing
pub beyond_counts : (n names : ℕ) → names ≤ n → one_if (ltb n names) ≡ 0
beyond_counts n names over = ap one_if (le-ltb n names over)

-- a number that counts is below the next one
pub counts_below : (n names : ℕ) → 0 < one_if (ltb n names) → n < names
counts_below n names counts = dite (dec_lt n names) (λ less. less) (λ over. let z = beyond_counts n names (omega arith) in absurd (omega arith))

pub same_counts : (a b : ℕ) → a ≡ b → one_if (eqb a b) ≡ 1
same_counts a b is = ap one_if (eq-eqb a b is)

pub other_counts : (a b : ℕ) → a ≢ b → one_if (eqb a b) ≡ 0
other_counts a b far = ap one_if (ne_eqb a b far)

module _ {E : Type 0} where
  -- how often the number n stands in lists of what numbers made
  abbrev pub times_in : ℕ → List (Made E) → ℕ
  times_in n ms = sum_by (λ m. one_if (eqb m.number n)) ms

  -- one more entry of another caller
  pub made_by_other : (caller : E → ℕ) (n : ℕ) (xs : List E) (e : E) → caller e ≢ n → made_by caller n (xs ++ e ∷ []) ≡ made_by caller n xs
  made_by_other caller n xs e far =
      filter-append (λ (x : E). eqb (caller x) n) xs (e ∷ [])
      ∙ (ap (λ (b : Bool). made_by caller n xs ++ cond b (e ∷ []) []) (ne_eqb (caller e) n far) ∙ append-nil (made_by caller n xs))

  -- one more entry of this caller
  pub made_by_one : (caller : E → ℕ) (n : ℕ) (xs : List E) (e : E) → caller e ≡ n → made_by caller n (xs ++ e ∷ []) ≡ made_by caller n xs ++ e ∷ []
  made_by_one caller n xs e is =
      filter-append (λ (x : E). eqb (caller x) n) xs (e ∷ []) ∙ ap (λ (b : Bool). made_by caller n xs ++ cond b (e ∷ []) []) (eq-eqb (caller e) n is)

  -- a number that no entry has made nothing
  pub none_by : (caller : E → ℕ) (n : ℕ) (xs : List E) → All (λ e. caller e < n) xs → made_by caller n xs ≡ []
  none_by caller n [] all = refl
  none_by caller n (x ∷ xs) all =
      let less = All-head (λ (e : E). caller e < n) x xs all in
      let far : caller x ≢ n = λ is. absurd (omega arith) in
      ap (λ (b : Bool). cond b (x ∷ made_by caller n xs) (made_by caller n xs)) (ne_eqb (caller x) n far) ∙ none_by caller n xs (All-tail (λ (e : E). caller e < n) x xs all)

  -- each made list is as it was where the number n is none of theirs
  pub others_kept : (P Q : Made E → Type 0) (n : ℕ) → ((m : Made E) → m.number ≢ n → P m → Q m) → (ms : List (Made E)) → times_in n ms ≡ 0 → All P ms → All Q ms
  others_kept P Q n keep [] lacks all = All-nil Q
  others_kept P Q n keep (m ∷ ms) lacks all =
      let far : m.number ≢ n = λ is. (let one = same_counts m.number n is in absurd (omega (arith, sum_by-cons (λ (m : Made E). one_if (eqb m.number n)) m ms))) in
      All-cons Q m ms (keep m far (All-head P m ms all))
      (others_kept P Q n keep ms (omega (arith, sum_by-cons (λ (m : Made E). one_if (eqb m.number n)) m ms)) (All-tail P m ms all))

  -- a number that is counted stands there
  pub counted_stands : (n : ℕ) (ms : List (Made E)) → 0 < times_in n ms → Contains (map (λ (m : Made E). m.number) ms) n
  counted_stands n [] counts = absurd (omega arith)
  counted_stands n (m ∷ ms) counts = dite (ℕ_discrete m.number n)
      (λ is. subst (λ (z : ℕ). Contains (map (λ (m : Made E). m.number) (m ∷ ms)) z) is (contains_head m.number (map (λ (m : Made E). m.number) ms)))
      (λ far. contains_tail m.number (map (λ (m : Made E). m.number) ms) n
      (counted_stands n ms (let none = other_counts m.number n far in omega (arith, sum_by-cons (λ (m : Made E). one_if (eqb m.number n)) m ms))))

module _ {E C : Type 0} where
  -- a view with a number
  pub own_of : (v : View E C) → 0 < v.number → own_list v ≡ record { number = v.number; entries = v.made } ∷ []
  own_of v pos = ap (λ (b : Bool). if b then [] else record { number = v.number; entries = v.made } ∷ []) (ne_eqb v.number 0 (λ is. absurd (omega arith)))

  -- a view without one
  pub none_of : (v : View E C) → v.number ≡ 0 → own_list v ≡ []
  none_of v is = ap (λ (b : Bool). if b then [] else record { number = v.number; entries = v.made } ∷ []) (eq-eqb v.number 0 is)

  pub both_lists : (v w : View E C) → made_lists (both_of v w) ≡ made_lists v ++ made_lists w
  both_lists v w = sym (append_assoc (own_list v) v.joined (made_lists w))

  pub times_both : (n : ℕ) (v w : View E C) → times n (both_of v w) ≡ times n v + times n w
  times_both n v w = ap (λ (ms : List (Made E)). times_in n ms) (both_lists v w) ∙ sum_by-append (λ (m : Made E). one_if (eqb m.number n)) (made_lists v) (made_lists w)

  pub numbers_both : (v w : View E C) → numbers_of (both_of v w) ≡ numbers_of v + numbers_of w
  numbers_both v w = ap (λ (ms : List (Made E)). length ms) (both_lists v w) ∙ length-append (made_lists v) (made_lists w)

  -- the own number of a view stands in it
  pub times_own : (v : View E C) → 0 < v.number → times v.number v ≡ 1 + times_in v.number v.joined
  times_own v pos = ap (λ (ms : List (Made E)). times_in v.number (ms ++ v.joined)) (own_of v pos)
      ∙ (sum_by-cons (λ (m : Made E). one_if (eqb m.number v.number)) (record { number = v.number; entries = v.made }) v.joined
      ∙ ap (λ (k : ℕ). k + times_in v.number v.joined) (same_counts v.number v.number refl))

  -- more entries, under the same numbers
  pub times_more : (n : ℕ) (v : View E C) (seen made : List E) → 0 < v.number → times n (record v { seen = seen; made = made }) ≡ times n v
  times_more n v seen made pos =
      ap (λ (ms : List (Made E)). times_in n (ms ++ v.joined)) (own_of (record v { seen = seen; made = made }) pos) ∙ sym (ap (λ (ms : List (Made E)). times_in n (ms ++ v.joined)) (own_of v pos))

  pub numbers_more : (v : View E C) (seen made : List E) → numbers_of (record v { seen = seen; made = made }) ≡ numbers_of v
  numbers_more v seen made = go (eqb v.number 0)
    where
      go : (b : Bool) → length ((if b then [] else record { number = v.number; entries = made } ∷ []) ++ v.joined) ≡ length ((if b then [] else record { number = v.number; entries = v.made } ∷ []) ++ v.joined)
      go true = refl
      go false = refl

  -- a number for a view without one
  pub times_signed : (n names share : ℕ) (v : View E C) → v.number ≡ 0 → 0 < names → times n (record v { number = names; share = share }) ≡ times n v + one_if (eqb names n)
  times_signed n names share v unnamed pos =
      let new = ap (λ (ms : List (Made E)). times_in n (ms ++ v.joined)) (own_of (record v { number = names; share = share }) pos)
      ∙ sum_by-cons (λ (m : Made E). one_if (eqb m.number n)) (record { number = names; entries = v.made }) v.joined in
      let old = ap (λ (ms : List (Made E)). times_in n (ms ++ v.joined)) (none_of v unnamed) in omega arith

  pub numbers_signed : (names share : ℕ) (v : View E C) → v.number ≡ 0 → 0 < names → numbers_of (record v { number = names; share = share }) ≡ numbers_of v + 1
  numbers_signed names share v unnamed pos =
      let new = ap (λ (ms : List (Made E)). length (ms ++ v.joined)) (own_of (record v { number = names; share = share }) pos) in
      let old = ap (λ (ms : List (Made E)). length (ms ++ v.joined)) (none_of v unnamed) in omega arith

-- the numbers below the next one, and that one
pub next_counts : (n names : ℕ) → one_if (ltb n (names + 1)) ≡ one_if (ltb n names) + one_if (eqb names n)
next_counts n names = dite (ℕ_discrete names n)
    (λ is. let a = below_counts n (names + 1) (omega arith) in let b = beyond_counts n names (omega arith) in let c = same_counts names n is in omega arith)
    (λ far. let c = other_counts names n far in dite (dec_lt n names)
    (λ less. let a = below_counts n (names + 1) (omega arith) in let b = below_counts n names less in omega arith)
    (λ over. let a = beyond_counts n (names + 1) (omega arith) in let b = beyond_counts n names (omega arith) in omega arith))
