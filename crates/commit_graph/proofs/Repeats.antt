-- Sums over lists without repeats.
use Rattle.std.proofs.Common.{◌≡◌, ℕ, ◌+◌, ◌≤◌, List, [], ◌∷◌, ◌++◌, length, sum_by, refl, sym, ap, subst, ⊎_elim, ◌∙◌, arith}
use Rattle.std.specs.Prelude.{Contains}
use Rattle.std.proofs.lemmas.List.Sums.{sum_by-append, sum_by-cons}
use Rattle.std.proofs.lemmas.List.Elements.{Contains-append_left, Contains-append_right, Contains-append_cases}
use Rattle.rad_base.specs.Lists.{AllDiffer}
use Rattle.rad_base.proofs.EachItem.{lacks_other}
use Rattle.rad_base.proofs.Members.{contains_nothing, contains_head, contains_tail, contains_cases}

-- the list round one of its items
record IsSplit {X : Type 0} (ys : List X) (x : X) : Type 0 where
  before : List X
  after : List X
  is : ys ≡ before ++ x ∷ after

split_at : {X : Type 0} (ys : List X) (x : X) → Contains ys x → IsSplit ys x
split_at [] x h = absurd (contains_nothing x h)
split_at {X} (y ∷ ys) x h =
    ⊎_elim
    (λ a. record { before = []; after = ys; is = ap (λ (z : X). z ∷ ys) a })
    (λ a. let s = split_at ys x a in record { before = y ∷ s.before; after = s.after; is = ap (λ (zs : List X). y ∷ zs) s.is })
    (contains_cases y ys x h)

left_out : {X : Type 0} (a b : List X) (x y : X) → (y ≡ x → ⊥) → Contains (a ++ x ∷ b) y
    → Contains (a ++ b) y
left_out a b x y ne h =
    ⊎_elim (λ c. Contains-append_left a b y c)
    (λ c. ⊎_elim (λ d. absurd (ne (sym d))) (λ d. Contains-append_right a b y d) (contains_cases x b y c))
    (Contains-append_cases a (x ∷ b) y h)

-- a sum over a list without repeats is at most that over a list with each of its items
pub sum_by-le : {X : Type 0} (f : X → ℕ) (xs ys : List X) → AllDiffer xs
    → ((x : X) → Contains xs x → Contains ys x) → sum_by f xs ≤ sum_by f ys
sum_by-le f [] ys once has = omega arith
sum_by-le {X} f (x ∷ xs) ys once has =
    let s = split_at ys x (has x (contains_head x xs)) in
    let rest : sum_by f xs ≤ sum_by f (s.before ++ s.after) =
    sum_by-le f xs (s.before ++ s.after) once.1
    (λ y h. left_out s.before s.after x y (λ e. lacks_other x xs once.0 (subst (Contains xs) e h))
    (subst (λ (zs : List X). Contains zs y) s.is (has y (contains_tail x xs y h)))) in
    let whole : sum_by f ys ≡ sum_by f s.before + (f x + sum_by f s.after) = ap (sum_by f) s.is ∙ sum_by-append f s.before (x ∷ s.after) ∙ ap (λ (n : ℕ). sum_by f s.before + n) (sum_by-cons f x s.after) in
    omega (arith, rest, whole, sum_by-append f s.before s.after, sum_by-cons f x xs)

-- a sum of ones is a length
pub sum_by-one : {X : Type 0} (xs : List X) → sum_by (λ (x : X). 1) xs ≡ length xs
sum_by-one [] = refl
sum_by-one {X} (x ∷ xs) = omega (arith, sum_by-cons (λ (y : X). 1) x xs, sum_by-one xs)

-- a list without repeats is no longer than one with each of its items
pub length_within : {X : Type 0} (xs ys : List X) → AllDiffer xs
    → ((x : X) → Contains xs x → Contains ys x) → length xs ≤ length ys
length_within {X} xs ys once has =
    omega (arith, sum_by-le (λ (x : X). 1) xs ys once has, sum_by-one xs, sum_by-one ys)
