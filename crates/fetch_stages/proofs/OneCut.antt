-- Objects are cut into batches in one way.
use Rattle.std.proofs.Common.{◌≡◌, ◌≤◌, List, [], ◌∷◌, ◌++◌, length, get_or, drop, refl, sym, ap, ◌∙◌, subst, inl, inr, arith, append_assoc, length-append}
use Rattle.std.specs.Prelude.{◌⊎◌}
use Rattle.std.proofs.lemmas.List.{append-nil}
use Rattle.std.proofs.lemmas.List.Sums.{sum_by-append}
use Rattle.commit_graph.specs.Objects.{Object}
use Rattle.repo_entries.specs.Batches.{IsRun, IsWithin}
use Rattle.fetch_stages.specs.Batches.{AreGreedy, IsFullBefore, OneCut, all_in}

-- a front of what is within the limits is
pub within_front : (x y : List Object) → IsWithin (x ++ y) → IsWithin x
within_front x y w = record {
  few = omega (arith, w.few, length-append x y);
  small = omega (arith, w.small, sum_by-append (λ (object : Object). length object.1) x y);
}

-- y goes on where x ends
abbrev Longer : List Object → List Object → List Object → List Object → Type 0
Longer x y a b = (d : List Object) × (y ≡ x ++ d) × (a ≡ d ++ b)

one_longer : (p q : Object) (x y d : List Object) → p ≡ q → y ≡ x ++ d → q ∷ y ≡ p ∷ (x ++ d)
one_longer p q x y d e f = cc (e, f)

split : (x y a b : List Object) → x ++ a ≡ y ++ b → Longer x y a b ⊎ Longer y x b a
split [] y a b e = inl (y, refl, e)
split (p ∷ x) [] a b e = inr (p ∷ x, refl, sym e)
split (p ∷ x) (q ∷ y) a b e =
    let head : p ≡ q = ap (λ (l : List Object). get_or l 0 p) e in
    let tail : x ++ a ≡ y ++ b = ap (λ (l : List Object). drop 1 l) e in
    elim (split x y a b tail) [
      | inl s ↦ inl (s.0, one_longer p q x y s.0 head s.1, s.2)
      | inr s ↦ inr (s.0, one_longer q p y x s.0 (sym head) s.1, s.2)
    ]

too_many : (x : List Object) (o : Object) (d : List Object) → 1 ≤ length x → length (x ++ o ∷ d) ≡ 1 → ⊥
too_many x o d some one = let e = length-append x (o ∷ d) in omega (arith, e, some, one)

-- a batch that is full goes on in no other batch
no_longer : (x y a b d : List Object) → IsRun x → IsRun y → IsFullBefore x a → y ≡ x ++ d → a ≡ d ++ b → d ≡ []
no_longer x y a b [] hx hy full e f = refl
no_longer x y a b (o ∷ d) hx hy full e f =
    let past : IsWithin (x ++ o ∷ []) → ⊥ = subst (λ (l : List Object). IsFullBefore x l) f full in
    let batch : IsRun (x ++ o ∷ d) = subst (λ (l : List Object). IsRun l) e hy in
    elim batch.fits [
      | inl one ↦ absurd (too_many x o d hx.some one)
      | inr within ↦ absurd (past (within_front (x ++ o ∷ []) d (subst (λ (l : List Object). IsWithin l) (sym (append_assoc x (o ∷ []) d)) within)))
    ]

some_front : (y b : List Object) → 1 ≤ length y → [] ≡ y ++ b → ⊥
some_front [] b some e = absurd (omega (arith, some))
some_front (o ∷ y) b some e = cc e

ends_there : (x y a b d : List Object) → d ≡ [] → y ≡ x ++ d → a ≡ d ++ b → (x ≡ y) × (a ≡ b)
ends_there x y a b d none e f =
    let y' : y ≡ x ++ [] = subst (λ (l : List Object). y ≡ x ++ l) none e in
    let a' : a ≡ [] ++ b = subst (λ (l : List Object). a ≡ l ++ b) none f in
    (sym (y' ∙ append-nil x), a')

pub same_first : (x y a b : List Object) → IsRun x → IsRun y → IsFullBefore x a → IsFullBefore y b → x ++ a ≡ y ++ b → (x ≡ y) × (a ≡ b)
same_first x y a b hx hy fx fy e =
    elim (split x y a b e) [
      | inl s ↦ ends_there x y a b s.0 (no_longer x y a b s.0 hx hy fx s.1 s.2) s.1 s.2
      | inr s ↦ let t = ends_there y x b a s.0 (no_longer y x b a s.0 hy hx fy s.1 s.2) s.1 s.2 in (sym t.0, sym t.1)
    ]

greedy_once : (xs ys : List (List Object)) → AreGreedy xs → AreGreedy ys → all_in xs ≡ all_in ys → xs ≡ ys
greedy_once [] [] hx hy e = refl
greedy_once [] (y ∷ ys) hx hy e = absurd (some_front y (all_in ys) hy.0.some e)
greedy_once (x ∷ xs) [] hx hy e = absurd (some_front x (all_in xs) hx.0.some (sym e))
greedy_once (x ∷ xs) (y ∷ ys) hx hy e =
    let t = same_first x y (all_in xs) (all_in ys) hx.0 hy.0 hx.1 hy.1 e in
    let first = t.0 in
    let others = greedy_once xs ys hx.2 hy.2 t.1 in
    cc (first, others)

-- objects are cut in one way
pub one_cut : OneCut
one_cut objects these those a b = greedy_once these those a.greedy b.greedy (sym a.all ∙ b.all)
