-- How a value that is held is lent.
use Rattle.std.specs.Borrow.{Lends, MutBor, Fml}
use denote.RattleType.{RattleType}
use Rattle.turn_lock.specs.declared.held.Held.{Held}
use Rattle.turn_lock.specs.contracts.held.Held.{the_row}

-- what is held, with another value
abbrev pub with_value : {T : Type 0} → Held T → T → Held T
with_value held x = record held { value = x }

-- the value that is held is at the end what was last written through r
abbrev pub LendsValue : (R : RattleType) → MutBor (Held R.Denot) → MutBor R.Denot → Fml
LendsValue R held r = Lends (the_row R) R held r (with_value held.now)
