-- What doors have still to give, and what was dialed through them.
use Rattle.std.specs.Prelude.{◌≡◌, ℕ, List, [], ◌∷◌, ◌++◌, Option, None, Some}

-- the link is the first of those that were left, and the others are left now
abbrev pub GivesFirst : {L : Type 0} → Option (List L) → Option (List L) → L → Type 0
GivesFirst None new link = Unit {0}
GivesFirst (Some links) None link = ⊥
GivesFirst (Some links) (Some rest) link = links ≡ link ∷ rest

-- one address more was dialed
abbrev pub AddsAddress : Option (List (List ℕ)) → Option (List (List ℕ)) → List ℕ → Type 0
AddsAddress None new address = Unit {0}
AddsAddress (Some dialed) None address = ⊥
AddsAddress (Some dialed) (Some more) address = more ≡ dialed ++ address ∷ []
