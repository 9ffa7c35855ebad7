-- Numbers that are marked.
use Rattle.std.specs.Prelude.{◌≡◌, ℕ, Bool, true, List, Contains, slice_get, Some, ◌↔◌}

-- the numbers that a search has come to, and the limit that they are below
pub record Marking : Type 0 where
  pub limit : ℕ
  pub found : List ℕ

-- those that are marked are on the list
abbrev pub IsMarking : List Bool → List ℕ → Type 0
IsMarking marks found = (i : ℕ) → (slice_get marks i ≡ Some true) ↔ Contains found i
