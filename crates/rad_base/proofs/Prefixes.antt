-- Lists that begin other lists.
use Rattle.std.proofs.Common.{◌≡◌, ℕ, zero, suc, ◌≤◌, List, [], ◌∷◌, ◌++◌, length, Some, slice_get, refl, sym, ap, subst, ◌∙◌, arith, append_assoc, append-nil, length-append}
use Rattle.std.specs.Prelude.{Contains}
use Rattle.std.proofs.lemmas.List.Elements.{Contains-append_left}
use mathlib.Core.List.{IsPrefix}

-- a list begins with itself
pub prefix_self : {X : Type 0} (xs : List X) → IsPrefix xs xs
prefix_self xs = ([], append-nil xs)

-- and with each of its prefixes
pub prefix_append : {X : Type 0} (xs ys : List X) → IsPrefix xs (xs ++ ys)
prefix_append xs ys = (ys, refl)

-- a prefix of a prefix is a prefix of the whole
pub prefix_along : {X : Type 0} (xs ys zs : List X) → IsPrefix xs ys → IsPrefix ys zs
    → IsPrefix xs zs
prefix_along xs ys zs p q = (p.0 ++ q.0, sym (append_assoc xs p.0 q.0) ∙ ap (λ prefix. prefix ++ q.0) p.1 ∙ q.1)

-- a prefix is no longer than the whole
pub prefix_length : {X : Type 0} (xs ys : List X) → IsPrefix xs ys → length xs ≤ length ys
prefix_length xs ys p = omega (arith, sym (ap length p.1) ∙ length-append xs p.0)

-- a prefix as long as the whole is the whole
pub prefix_whole : {X : Type 0} (xs ys : List X) → IsPrefix xs ys → length ys ≤ length xs → xs ≡ ys
prefix_whole [] [] p le = refl
prefix_whole [] (y ∷ ys) p le = absurd (omega arith)
prefix_whole (x ∷ xs) [] p le = absurd (cc (p.1))
prefix_whole (x ∷ xs) (y ∷ ys) p le = let rest = prefix_whole xs ys (p.0, cc (p.1)) (omega arith) in cc (p.1, rest)

-- of two prefixes of one list the shorter begins the longer
pub prefix_shorter : {X : Type 0} (xs ys zs : List X) → IsPrefix xs zs → IsPrefix ys zs
    → length xs ≤ length ys → IsPrefix xs ys
prefix_shorter [] ys zs p q le = (ys, refl)
prefix_shorter (x ∷ xs) [] zs p q le = absurd (omega arith)
prefix_shorter (x ∷ xs) (y ∷ ys) [] p q le = absurd (cc (p.1))
prefix_shorter (x ∷ xs) (y ∷ ys) (z ∷ zs) p q le =
    let heads : x ≡ y = cc (p.1, q.1) in
    let rest = prefix_shorter xs ys zs (p.0, cc (p.1)) (q.0, cc (q.1)) (omega arith) in
    (rest.0, cc (heads, rest.1))

-- what stands in a prefix stands in the whole, at the same place
pub prefix_get : {X : Type 0} (xs ys : List X) (i : ℕ) (x : X) → IsPrefix xs ys
    → slice_get xs i ≡ Some x → slice_get ys i ≡ Some x
prefix_get [] ys i x p h = absurd cc
prefix_get (y ∷ xs) [] i x p h = absurd (cc (p.1))
prefix_get (y ∷ xs) (z ∷ ys) zero x p h = cc (p.1, h)
prefix_get (y ∷ xs) (z ∷ ys) (suc i) x p h = prefix_get xs ys i x (p.0, cc (p.1)) h

-- the whole contains what a prefix contains
pub prefix_has : {X : Type 0} (xs ys : List X) (x : X) → IsPrefix xs ys → Contains xs x
    → Contains ys x
prefix_has {X} xs ys x p h = subst (λ (zs : List X). Contains zs x) p.1 (Contains-append_left xs p.0 x h)
