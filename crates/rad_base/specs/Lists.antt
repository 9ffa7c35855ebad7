-- What bytes begin with, lists in which no item stands twice, and items one behind the other.
use Rattle.std.specs.Prelude.{◌≡◌, ◌≢◌, ℕ, List, [], ◌∷◌, ◌++◌, length}
use Rattle.std.specs.List.{AllByRecursion, flat_map}

-- the bytes begin with the word
abbrev pub BeginsWith : List ℕ → List ℕ → Type 0
BeginsWith word bytes = (rest : List ℕ) × (bytes ≡ word ++ rest)

-- no item stands twice
abbrev pub AllDiffer : {X : Type 0} → List X → Type 0
AllDiffer [] = Unit {0}
AllDiffer (x ∷ xs) = AllByRecursion (λ y. x ≢ y) xs × AllDiffer xs

-- so many items of their form, whose texts one behind the other are the bytes
pub record AreItems {X : Type 0} (Is : X → Type 0) (spell : X → List ℕ) (bytes : List ℕ) (n : ℕ) (items : List X) : Type 0 where
  pub each : AllByRecursion Is items
  pub count : length items ≡ n
  pub text : bytes ≡ flat_map spell items
