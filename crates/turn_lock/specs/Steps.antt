-- What each step tells its pass: of the step, the seat before, the number found and the seat after.
use Rattle.std.specs.Prelude.{◌≡◌, ◌≢◌, ℕ, ◌-◌, ◌%◌, ◌<◌, ◌≤◌, ◌^◌, true, false, List, [], ◌∷◌, ◌++◌, All, length, Option, None, Some}
use mathlib.Core.List.{IsPrefix}
use Rattle.atomic_table.specs.Table.{Me, Step}
use Rattle.turn_lock.specs.declared.view.View.{View}
use Rattle.turn_lock.specs.Views.{made_by, made_lists}

-- a pass's view, and the slot that it has in hand
abbrev pub Seated : Type 0 → Type 0 → Type 0 → Type 0
Seated T E C = Me (Option T) (View E C)

-- the value x fits what a view knows: its list begins with all that was seen, it has these constants, and the entries of each number are those that the number made
abbrev pub Fits : {T E C : Type 0} → (T → List E) → (T → C) → (E → ℕ) → View E C → T → Type 0
Fits list constants caller v x =
    IsPrefix v.seen (list x) × (v.constants ≡ Some (constants x))
    × All (λ m. made_by caller m.number (list x) ≡ m.entries) (made_lists v)

module _ {T E C : Type 0} where
  -- a ticket was drawn
  abbrev pub drew : Step (Option T) → Seated T E C → ℕ → Seated T E C → Type 0
  drew step before found after =
      (t : ℕ) × (found ≡ t % 2 ^ 64) × (after ≡ (record before.0 { ticket = Some t }, before.1))

  -- the pass is called and has a value that fits, where the ticket that is served is its own
  abbrev pub looked : (T → List E) → (T → C) → (E → ℕ) → Step (Option T) → Seated T E C → ℕ → Seated T E C → Type 0
  looked list constants caller step before found after =
      (t : ℕ) → before.0.ticket ≡ Some t
      → (found ≡ t % 2 ^ 64 → (x : T)
      × (after ≡ (record before.0 { called = true; seen = list x }, (0, Some x) ∷ before.1))
      × Fits list constants caller before.0 x)
      × (found ≢ t % 2 ^ 64 → after ≡ before)

  -- the next entry of the value that was put back was counted, and was seen and made
  abbrev pub added : (T → List E) → Step (Option T) → Seated T E C → ℕ → Seated T E C → Type 0
  added list step before found after = (e : E)
      × (after ≡ (record before.0 { seen = before.0.seen ++ e ∷ []; made = before.0.made ++ e ∷ [] }, before.1))
      × ((x : T) → before.1 ≡ (0, Some x) ∷ [] → IsPrefix (before.0.seen ++ e ∷ []) (list x))

  -- the turn is over
  abbrev pub passed_on : Step (Option T) → Seated T E C → ℕ → Seated T E C → Type 0
  passed_on step before found after = after ≡ (record before.0 { ticket = None; called = false }, [])

  -- the number found is the pass's
  abbrev pub signed : Step (Option T) → Seated T E C → ℕ → Seated T E C → Type 0
  signed step before found after =
      (0 < found) × (after ≡ (record before.0 { number = found; share = before.0.share - 1 }, before.1))

  -- what was told begins what is seen, where it is no longer
  abbrev pub learned : Step (Option T) → Seated T E C → ℕ → Seated T E C → Type 0
  learned step before found after =
      (after ≡ (record before.0 { told = [] }, before.1))
      × (length before.0.told ≤ length before.0.seen → IsPrefix before.0.told before.0.seen)
