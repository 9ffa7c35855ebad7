-- What the answers of tests say.
use Rattle.std.proofs.Common.{◌≡◌, Bool, true, false, ◌==◌, List, [], length, sym, ap, ◌∙◌}
use Rattle.std.proofs.lemmas.Bool.{eqb-true}
use Rattle.std.proofs.lemmas.List.{nil_from_length}

-- a test has one answer
pub differ : (b : Bool) → b ≡ true → b ≡ false → ⊥
differ b e f = cc

-- an empty list has no item
pub is_nothing : {X : Type 0} (b : Bool) (xs : List X) → b ≡ (length xs == 0) → b ≡ true → xs ≡ []
is_nothing b xs e f = nil_from_length xs (eqb-true (length xs) 0 (sym e ∙ f))

-- a list that is not empty has one
pub is_something : {X : Type 0} (b : Bool) (xs : List X) → b ≡ (length xs == 0) → b ≡ false → xs ≡ [] → ⊥
is_something b xs e f h =
    let none : length xs ≡ 0 = ap length h in
    let yes : b ≡ true = rw none at e in
    cc
