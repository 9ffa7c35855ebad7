-- The numbers of the rules.
use Rattle.std.proofs.Common.{◌≡◌, ℕ, ◌+◌, ◌<◌, ◌≤◌, ◌==◌, Bool, true, false, List, ◌⊎◌, inl, inr, ⊎_elim, refl, subst, arith}
use Rattle.std.specs.Bool.{MatchBool}
use Rattle.std.proofs.lemmas.Bool.{cases_lt, eqb-true}
use Rattle.ref_name.specs.Rules.{Breaks, IsLeastBroken, KeepsRules}

-- a rule below a number is kept
abbrev pub Kept : ℕ → List ℕ → Type 0
Kept n name = (m : ℕ) → m < n → Breaks m name → ⊥

-- rule 0 is none
pub none_kept : (name : List ℕ) → Kept 1 name
none_kept name m below b =
    let e : m ≡ 0 = omega (arith, below) in
    subst (λ (k : ℕ). Breaks k name) e b

-- one more rule is kept
pub one_more : (n : ℕ) (name : List ℕ) → Kept n name → (Breaks n name → ⊥) → Kept (n + 1) name
one_more n name kept not m below b = ⊎_elim (λ less. kept m less b) (λ top.
    let e : m ≡ n = omega (arith, below, top) in
    not (subst (λ (k : ℕ). Breaks k name) e b)) (cases_lt m n)

-- the first that is broken is the least
pub least_broken : (n : ℕ) (name : List ℕ) → Kept n name → Breaks n name → IsLeastBroken name n
least_broken n name kept b = record {
  broken = b;
  least = λ m other. ⊎_elim (λ less. absurd (kept m less other)) (λ top. top) (cases_lt m n);
}

-- a choice by a number
by_number : (n k : ℕ) (P Q : Type 0) (b : Bool) → (n == k) ≡ b → MatchBool b P Q → (n ≡ k) ⊎ Q
by_number n k P Q true e h = inl (eqb-true n k e)
by_number n k P Q false e h = inr h

-- a number that is not this one, or is small
not_this : (n k : ℕ) (P Q : Type 0) → k ≤ 10 → (Q → n ≤ 10) → MatchBool (n == k) P Q → n ≤ 10
not_this n k P Q small next h = ⊎_elim (λ e. omega (arith, e, small)) next (by_number n k P Q (n == k) refl h)

-- there are ten rules
known : (n : ℕ) (name : List ℕ) → Breaks n name → n ≤ 10
known n name =
    not_this n 1 _ _ (omega arith) (not_this n 2 _ _ (omega arith) (not_this n 3 _ _ (omega arith) (not_this n 4 _ _ (omega arith)
    (not_this n 5 _ _ (omega arith) (not_this n 6 _ _ (omega arith) (not_this n 7 _ _ (omega arith) (not_this n 8 _ _ (omega arith)
    (not_this n 9 _ _ (omega arith) (not_this n 10 _ _ (omega arith) (λ none. absurd none))))))))))

-- ten rules that are kept are all
pub all_kept : (name : List ℕ) → Kept 11 name → KeepsRules name
all_kept name kept n b = kept n (omega (arith, known n name b)) b
