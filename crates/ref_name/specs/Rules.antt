-- The rules of a ref's name, by the numbers of git-check-ref-format.
use Rattle.std.specs.Prelude.{◌≡◌, ℕ, ◌≤◌, nat_lt, ◌==◌, if◌then◌else◌, Bool, ◌||◌, List, [], ◌∷◌, ◌++◌, codes, IsTrue, Option, Some, None, ◌⊎◌}
use Rattle.std.specs.Bool.{MatchBool}
use Rattle.std.specs.List.{Any, list_any}
use Rattle.rad_base.specs.Lists.{BeginsWith}
use Rattle.rad_base.specs.Sizes.{Lacks}

-- the bytes end with the word
abbrev pub Ends : List ℕ → List ℕ → Type 0
Ends word bytes = (front : List ℕ) × (bytes ≡ front ++ word)

-- the word stands somewhere in the bytes
abbrev pub Has : List ℕ → List ℕ → Type 0
Has word bytes = (front : List ℕ) × (rest : List ℕ) × (bytes ≡ front ++ (word ++ rest))

-- one more byte in front of the first part
abbrev pub in_front : ℕ → List (List ℕ) → List (List ℕ)
in_front byte [] = (byte ∷ []) ∷ []
in_front byte (part ∷ parts) = (byte ∷ part) ∷ parts

-- what stands between the slashes, from the first
abbrev pub components : List ℕ → List (List ℕ)
components [] = [] ∷ []
components (byte ∷ name) = if byte == 47 then [] ∷ components name else in_front byte (components name)

-- it begins with `.` or ends with `.lock`
abbrev pub IsBadComponent : List ℕ → Type 0
IsBadComponent component = BeginsWith (codes ".") component ⊎ Ends (codes ".lock") component

-- a control byte, a space, `~`, `^` or `:`
abbrev pub is_control : ℕ → Bool
is_control byte = nat_lt byte 32 || (byte == 127) || (byte == 32) || (byte == 126) || (byte == 94) || (byte == 58)

-- `?`, `*` or `[`
abbrev pub is_pattern : ℕ → Bool
is_pattern byte = (byte == 63) || (byte == 42) || (byte == 91)

-- a slash at the front, at the end, or behind another
abbrev pub HasBadSlash : List ℕ → Type 0
HasBadSlash name = BeginsWith (codes "/") name ⊎ (Ends (codes "/") name ⊎ Has (codes "//") name)

-- the name breaks the rule of this number
abbrev pub Breaks : ℕ → List ℕ → Type 0
Breaks n name =
    MatchBool (n == 1) (Any IsBadComponent (components name))
    (MatchBool (n == 2) (Lacks 47 name)
    (MatchBool (n == 3) (Has (codes "..") name)
    (MatchBool (n == 4) (IsTrue (list_any is_control name))
    (MatchBool (n == 5) (IsTrue (list_any is_pattern name))
    (MatchBool (n == 6) (HasBadSlash name)
    (MatchBool (n == 7) (Ends (codes ".") name)
    (MatchBool (n == 8) (Has (codes "@{") name)
    (MatchBool (n == 9) (name ≡ codes "@")
    (MatchBool (n == 10) (Has (codes "\\") name) ⊥)))))))))

-- the name breaks no rule
abbrev pub KeepsRules : List ℕ → Type 0
KeepsRules name = (n : ℕ) → Breaks n name → ⊥

-- the least number of a rule that the name breaks
pub record IsLeastBroken (name : List ℕ) (n : ℕ) : Type 0 where
  pub broken : Breaks n name
  pub least : (m : ℕ) → Breaks m name → n ≤ m

-- the least number of a broken rule, and none exactly where none is broken
abbrev pub FindsBroken : List ℕ → Option ℕ → Type 0
FindsBroken name None = KeepsRules name
FindsBroken name (Some n) = IsLeastBroken name n
