-- What contracts say of passes.
use Rattle.std.specs.Prelude.{◌≡◌, ℕ, ◌%◌, ◌<◌, ◌^◌, true, false, List, [], ◌∷◌, ◌++◌, All, length, drop, None, Some}
use Rattle.turn_lock.specs.declared.pass.Pass.{Pass}
use Rattle.turn_lock.specs.declared.turns.Turns.{Turns}
use Rattle.turn_lock.specs.declared.view.View.{View}
use Rattle.turn_lock.specs.declared.told.Told.{Ghosts}
use Rattle.turn_lock.specs.Steps.{Fits}

-- the value with which these Turns were made
abbrev pub value_at_first : {T E C : Type 0} → Turns T E C → T
value_at_first turns = turns.table.shared.key.value

module _ {T E C : Type 0} {D : Ghosts T E C} where
  -- what a pass knows
  abbrev pub knows : Pass T E C D → View E C
  knows p = p.seat.me.0

  -- the pass holds no turn
  abbrev pub IsIdle : Pass T E C D → Type 0
  IsIdle p = ((knows p).ticket ≡ None) × ((knows p).called ≡ false) × (p.seat.me.1 ≡ [])

  -- the pass has its turn, and has taken the value
  abbrev pub HasTurn : Pass T E C D → Type 0
  HasTurn p = ((knows p).called ≡ true) × (p.seat.me.1 ≡ (0, None) ∷ [])

  -- the pass came from these Turns
  abbrev pub IsPassOf : Turns T E C → Pass T E C D → Type 0
  IsPassOf turns p = p.seat.table_id ≡ turns.table.shared.table_id

  -- the value x fits what the pass knows
  abbrev pub FitsPass : Pass T E C D → T → Type 0
  FitsPass p x = Fits D.list D.constants D.caller (knows p) x

  -- one pass, before and after
  abbrev pub IsSamePass : Pass T E C D → Pass T E C D → Type 0
  IsSamePass p q = (q.seat.table_id ≡ p.seat.table_id) × (q.seat.id ≡ p.seat.id)

  -- the pass p then knows v, and has what it had in hand
  abbrev pub Becomes : Pass T E C D → Pass T E C D → View E C → Type 0
  Becomes p q v = IsSamePass p q × (q.seat.me ≡ (v, p.seat.me.1))

  -- the pass has drawn the ticket whose last 64 bits were found
  abbrev pub Drew : Pass T E C D → Pass T E C D → ℕ → Type 0
  Drew p q found = (t : ℕ) × (found ≡ t % 2 ^ 64) × (q.seat.me ≡ (record (knows p) { ticket = Some t }, p.seat.me.1))

  -- the pass waits with this ticket
  abbrev pub HasTicket : Pass T E C D → ℕ → Type 0
  HasTicket p found = (t : ℕ) × (found ≡ t % 2 ^ 64) × ((knows p).ticket ≡ Some t) × ((knows p).called ≡ false) × (p.seat.me.1 ≡ [])

  -- the pass p takes its turn and the value x
  abbrev pub TakesTurn : Pass T E C D → Pass T E C D → T → Type 0
  TakesTurn p q x = IsSamePass p q
      × (t : ℕ) × (q.seat.me ≡ (record (knows p) { ticket = Some t; called = true; seen = D.list x }, (0, None) ∷ []))

  -- the list of the value x is what the pass has seen, and entries of the pass alone
  abbrev pub GrownBy : Pass T E C D → T → Type 0
  GrownBy p x = (added : List E) × ((knows p).seen ++ added ≡ D.list x)
      × All (λ e. (0 < D.caller e) × (D.caller e ≡ (knows p).number)) added

  -- the turn of p is over, and the value x is back: all of it was seen, and the new entries were made
  abbrev pub GivesBack : Pass T E C D → Pass T E C D → T → Type 0
  GivesBack p q x = IsSamePass p q
      × (q.seat.me ≡ (
        record (knows p) {
          ticket = None;
          called = false;
          seen = D.list x;
          made = (knows p).made ++ drop (length (knows p).seen) (D.list x);
        },
        [],
      ))
