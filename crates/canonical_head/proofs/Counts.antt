-- Counting by a fact, and by a test that decides it.
use Rattle.std.proofs.Common.{◌≡◌, ℕ, ◌+◌, Bool, true, false, cond, List, [], ◌∷◌, ◌↔◌, refl, sym, ap, inl, inr, ◌∙◌, arith}
use Rattle.std.specs.Prelude.{Contains, count_by}
use Rattle.std.proofs.lemmas.Bool.{false≢true}
use Rattle.std.proofs.lemmas.List.Sums.{sum_by-cons}
use Rattle.rad_base.proofs.Members.{contains_head, contains_tail}
use Rattle.canonical_head.specs.Heads.{Counts}

-- a count is determined
pub counts_same : {X : Type 0} (P : X → Type 0) (xs : List X) (m n : ℕ) → Counts P xs m → Counts P xs n → m ≡ n
counts_same P [] m n a b = a ∙ sym b
counts_same P (x ∷ xs) m n (inl a) (inl b) = a.1.1 ∙ ap (λ (k : ℕ). k + 1) (counts_same P xs a.1.0 b.1.0 a.1.2 b.1.2) ∙ sym b.1.1
counts_same P (x ∷ xs) m n (inl a) (inr b) = absurd (b.0 a.0)
counts_same P (x ∷ xs) m n (inr a) (inl b) = absurd (a.0 b.0)
counts_same P (x ∷ xs) m n (inr a) (inr b) = counts_same P xs m n a.1 b.1

counts_step : {X : Type 0} (P : X → Type 0) (x : X) (xs : List X) (b : Bool) (n k : ℕ) → (b ≡ true) ↔ P x → n ≡ cond b 1 0 + k → Counts P xs k → Counts P (x ∷ xs) n
counts_step P x xs true n k h e c = inl (h.0 refl, (k, omega (arith, e), c))
counts_step {X} P x xs false n k h e c =
    let same : k ≡ n = omega (arith, e) in
    inr (λ p. false≢true (h.1 p), rw (sym same) c)

-- a count by a test is one by what the test decides
pub counts_by : {X : Type 0} (P : X → Type 0) (p : X → Bool) (xs : List X) → ((x : X) → Contains xs x → (p x ≡ true) ↔ P x) → Counts P xs (count_by p xs)
counts_by P p [] h = refl
counts_by P p (x ∷ xs) h =
    counts_step P x xs (p x) (count_by p (x ∷ xs)) (count_by p xs) (h x (contains_head x xs)) (sum_by-cons (λ y. cond (p y) 1 0) x xs)
    (counts_by P p xs (λ y c. h y (contains_tail x xs y c)))
