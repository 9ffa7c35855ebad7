-- The rule of the turns.
-- A table has four words (the next ticket, the ticket that is served, the count of entries that were added, the next number) and one slot, for the value.
use Rattle.std.specs.Prelude.{◌≡◌, ℕ, ◌+◌, ◌%◌, ◌<◌, ◌≤◌, ◌^◌, true, false, List, [], ◌++◌, All, length, slice_index, ltb, Option, Some}
use Rattle.std.specs.List.{sum_by}
use mathlib.Core.Option.{some}
use mathlib.Core.List.{IsPrefix}
use lib.ListN.{get_elem?}
use Rattle.atomic_table.specs.Table.{State}
use Rattle.turn_lock.specs.declared.view.View.{View}
use Rattle.turn_lock.specs.Views.{one_if, one_if_some, made_by, made_lists, numbers_of, times, spent_view}

-- the seat i has the view v
abbrev pub HasView : {T E C : Type 0} → State (Option T) (View E C) → ℕ → View E C → Type 0
HasView s i v = get_elem? s.views i ≡ some v

-- what a view knows, where the list is `whole`, and the tickets from `served` to below `drawn` wait
pub record Knows {E C : Type 0} (caller : E → ℕ) (fixed : C) (whole : List E) (served drawn : ℕ)
    (v : View E C) : Type 0 where
  pub constants : v.constants ≡ Some fixed
  -- what it has seen, and what it was told of, begins the list
  pub seen : IsPrefix v.seen whole
  pub told : IsPrefix v.told whole
  -- its ticket waits; where it is called, its ticket is served, and it has seen the whole list
  pub ticket : (t : ℕ) → v.ticket ≡ Some t → (served ≤ t) × (t < drawn)
  pub called : v.called ≡ true → (v.ticket ≡ Some served) × (v.seen ≡ whole)
  -- the entries of each of its numbers are those that the number made
  pub made : All (λ m. (0 < m.number) × (made_by caller m.number whole ≡ m.entries)) (made_lists v)
  pub unnamed : v.number ≡ 0 → v.made ≡ []

-- what is so between any two steps, where the value began with the entries `base` and has the constants `fixed`
pub record IsInTurn {T E C : Type 0} (list : T → List E) (constants : T → C) (caller : E → ℕ)
    (base : List E) (fixed : C) (s : State (Option T) (View E C)) : Type 0 where
  pub wide : length s.words ≡ 4
  pub deep : length s.homes ≡ 1
  -- the list is base and what was added since, which the third word counts; a view has seen it all
  pub whole : List E
  pub added : List E
  pub grown : base ++ added ≡ whole
  pub counted : slice_index s.words 2 ≡ length added
  pub longest : (i : ℕ) × (v : View E C) × HasView s i v × (0 < v.share) × (v.seen ≡ whole)
  -- the first two words count, modulo 2^64, the tickets that were drawn and those that were served
  pub drawn : ℕ
  pub served : ℕ
  pub drawn_word : slice_index s.words 0 ≡ drawn % 2 ^ 64
  pub served_word : slice_index s.words 1 ≡ served % 2 ^ 64
  -- as many views have a ticket as wait, and no two have the same
  pub waiting : sum_by (λ v. one_if_some v.ticket) s.views + served ≡ drawn
  pub apart : (i j : ℕ) (v w : View E C) (t : ℕ) → HasView s i v → HasView s j w
      → v.ticket ≡ Some t → w.ticket ≡ Some t → i ≡ j
  -- where no view is called, the slot has a value with this list and these constants
  pub at_home : ((i : ℕ) (v : View E C) → HasView s i v → v.called ≡ false)
      → (x : T) × (get_elem? s.homes 0 ≡ some (some (Some x))) × (list x ≡ whole) × (constants x ≡ fixed)
  -- a view with a share knows its part, and one without is spent
  pub each : (i : ℕ) (v : View E C) → HasView s i v → 0 < v.share
      → Knows caller fixed whole served drawn v
  pub spent : (i : ℕ) (v : View E C) → HasView s i v → v.share ≡ 0 → v ≡ spent_view
  -- the numbers from 1 to below the fourth word stand once in the views, and no others do
  pub once : (n : ℕ) → 0 < n → sum_by (times n) s.views ≡ one_if (ltb n (slice_index s.words 3))
  pub numbers : sum_by numbers_of s.views + 1 ≡ slice_index s.words 3
  -- no entry has a caller whose number was not given, and each that was added has one
  pub callers : All (λ e. caller e < slice_index s.words 3) whole
  pub behind : All (λ e. 0 < caller e) added
  -- the shares, and the numbers that were given, are 2^62 together
  pub shares : sum_by (λ v. v.share) s.views + slice_index s.words 3 ≡ 2 ^ 62 + 1
