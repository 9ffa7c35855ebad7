-- What an option holds.
use Rattle.std.proofs.Common.{◌≡◌, Option, Some, None}

-- two that are equal hold the same
pub some_is : {X : Type 0} (x y : X) → Some x ≡ Some y → x ≡ y
some_is x y e = cc e

-- an option holds one value
pub one_value : {X : Type 0} {o : Option X} {x y : X} → o ≡ Some x → o ≡ Some y → x ≡ y
one_value e f = cc (e, f)

-- what holds a value is not nothing
pub not_nothing : {X : Type 0} {o : Option X} {x : X} → o ≡ Some x → o ≡ None → ⊥
not_nothing e f = cc (e, f)
