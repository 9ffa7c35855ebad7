-- Words inside of bytes, a byte at a time.
use Rattle.std.proofs.Common.{◌≡◌, ℕ, ◌<◌, List, [], ◌∷◌, ◌++◌, length, ap, arith, length-append}
use Rattle.rad_base.specs.Lists.{BeginsWith}
use Rattle.ref_name.specs.Rules.{Has}

-- a word at the front stands somewhere
pub has_in_front : (word bytes : List ℕ) → BeginsWith word bytes → Has word bytes
has_in_front word bytes h = ([], h.0, h.1)

-- a word in the rest stands somewhere
pub has_in_rest : (word : List ℕ) (byte : ℕ) (rest : List ℕ) → Has word rest → Has word (byte ∷ rest)
has_in_rest word byte rest h = (byte ∷ h.0, h.1, ap (λ (l : List ℕ). byte ∷ l) h.2)

same_rest : (a b : ℕ) (x y : List ℕ) → a ∷ x ≡ b ∷ y → x ≡ y
same_rest a b x y e = cc e

-- a word that stands somewhere and not at the front stands in the rest
pub has_behind : (word : List ℕ) (byte : ℕ) (rest : List ℕ) → (BeginsWith word (byte ∷ rest) → ⊥) → Has word (byte ∷ rest) → Has word rest
has_behind word byte rest none h = behind h.0 h.1 h.2
  where
    behind : (front after : List ℕ) → byte ∷ rest ≡ front ++ (word ++ after) → Has word rest
    behind [] after e = absurd (none (after, e))
    behind (b ∷ front) after e = (front, after, same_rest byte b rest (front ++ (word ++ after)) e)

-- nothing has a word
pub has_nothing : (word bytes : List ℕ) → 0 < length word → length bytes ≡ 0 → Has word bytes → ⊥
has_nothing word bytes some none h = omega (arith, some, none, ap length h.2, length-append h.0 (word ++ h.1), length-append word h.1)
