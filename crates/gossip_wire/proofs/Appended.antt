-- Bytes written one behind the other.
use Rattle.std.proofs.Common.{◌≡◌, ℕ, List, ◌++◌, ap, ◌∙◌, append_assoc}

pub two_behind : (old middle new x y : List ℕ) → middle ≡ old ++ x → new ≡ middle ++ y → new ≡ old ++ (x ++ y)
two_behind old middle new x y a b = b ∙ ap (λ (l : List ℕ). l ++ y) a ∙ append_assoc old x y

pub three_behind : (old first second new x y z : List ℕ) → first ≡ old ++ x → second ≡ first ++ y → new ≡ second ++ z → new ≡ old ++ (x ++ (y ++ z))
three_behind old first second new x y z a b d = two_behind old first new x (y ++ z) a (two_behind first second new y z b d)
