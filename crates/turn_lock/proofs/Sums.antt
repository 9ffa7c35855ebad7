-- Lists of which one member is changed or one is added.
use Rattle.std.proofs.Common.{◌≡◌, ◌≢◌, ℕ, zero, suc, ◌+◌, ◌<◌, ◌≤◌, List, [], ◌∷◌, ◌++◌, length, set, sym, refl, ap, ◌∙◌, subst, ⊎_elim, arith}
use Rattle.std.specs.List.{sum_by}
use Rattle.std.proofs.lemmas.List.Sums.{sum_by-cons}
use mathlib.Core.Logic.{dite}
use mathlib.Core.Option.{some, some-injective, some-ne-none}
use native.Mathlib.Decide.{ℕ_discrete}
use lib.ListN.{get_elem?}
use Rattle.atomic_table.proofs.Lists.{at_set, set_here, set_else, at_snoc}

module _ {A : Type 0} where
  -- a sum after one member changed
  pub sum_set : (f : A → ℕ) (xs : List A) (i : ℕ) (x y : A) → get_elem? xs i ≡ some x → sum_by f (set xs i y) + f x ≡ sum_by f xs + f y
  sum_set f [] i x y e = absurd (some-ne-none x (sym e))
  sum_set f (a ∷ rest) zero x y e = let same : f a ≡ f x = ap f (some-injective a x e) in omega (arith, sum_by-cons f a rest, sum_by-cons f y rest)
  sum_set f (a ∷ rest) (suc i) x y e = let h = sum_set f rest i x y e in omega (arith, sum_by-cons f a rest, sum_by-cons f a (set rest i y))

  -- a sum after one member changed, of which it takes the same
  pub same_sum : (f : A → ℕ) (xs : List A) (i : ℕ) (x y : A) → get_elem? xs i ≡ some x → f y ≡ f x → sum_by f (set xs i y) ≡ sum_by f xs
  same_sum f xs i x y e same = let h = sum_set f xs i x y e in omega arith

  -- a member is no more than the sum
  pub at_most_sum : (f : A → ℕ) (xs : List A) (i : ℕ) (x : A) → get_elem? xs i ≡ some x → f x ≤ sum_by f xs
  at_most_sum f [] i x e = absurd (some-ne-none x (sym e))
  at_most_sum f (a ∷ rest) zero x e = let same : f a ≡ f x = ap f (some-injective a x e) in omega (arith, sum_by-cons f a rest)
  at_most_sum f (a ∷ rest) (suc i) x e = let h = at_most_sum f rest i x e in omega (arith, sum_by-cons f a rest)

  -- nor are two members
  pub two_at_most_sum : (f : A → ℕ) (xs : List A) (i j : ℕ) (x y : A) → i ≢ j → get_elem? xs i ≡ some x → get_elem? xs j ≡ some y → f x + f y ≤ sum_by f xs
  two_at_most_sum f [] i j x y far a b = absurd (some-ne-none x (sym a))
  two_at_most_sum f (z ∷ rest) zero zero x y far a b = absurd (far refl)
  two_at_most_sum f (z ∷ rest) zero (suc j) x y far a b =
      let same : f z ≡ f x = ap f (some-injective z x a) in let h = at_most_sum f rest j y b in omega (arith, sum_by-cons f z rest)
  two_at_most_sum f (z ∷ rest) (suc i) zero x y far a b =
      let same : f z ≡ f y = ap f (some-injective z y b) in let h = at_most_sum f rest i x a in omega (arith, sum_by-cons f z rest)
  two_at_most_sum f (z ∷ rest) (suc i) (suc j) x y far a b =
      let h = two_at_most_sum f rest i j x y (λ same. far (ap suc same)) a b in omega (arith, sum_by-cons f z rest)

  -- a sum of nothing but zeros
  pub zero_sum : (f : A → ℕ) (xs : List A) → ((j : ℕ) (y : A) → get_elem? xs j ≡ some y → f y ≡ 0) → sum_by f xs ≡ 0
  zero_sum f [] all = refl
  zero_sum f (a ∷ rest) all = let h = all 0 a refl in let t = zero_sum f rest (λ j y e. all (suc j) y e) in omega (arith, sum_by-cons f a rest)

  -- a sum to which one member alone adds
  pub alone_sum : (f : A → ℕ) (xs : List A) (i : ℕ) (x : A) → get_elem? xs i ≡ some x → ((j : ℕ) (y : A) → j ≢ i → get_elem? xs j ≡ some y → f y ≡ 0) → sum_by f xs ≡ f x
  alone_sum f [] i x e others = absurd (some-ne-none x (sym e))
  alone_sum f (a ∷ rest) zero x e others =
      let same : f a ≡ f x = ap f (some-injective a x e) in
      let t = zero_sum f rest (λ j y b. others (suc j) y (λ h. omega arith) b) in omega (arith, sum_by-cons f a rest)
  alone_sum f (a ∷ rest) (suc i) x e others =
      let h = others 0 a (λ h. omega arith) refl in
      let t = alone_sum f rest i x e (λ j y far b. others (suc j) y (λ h. far (omega arith)) b) in omega (arith, sum_by-cons f a rest)

  -- a sum is no more where each member's number is no more
  pub sum_le : (f g : A → ℕ) (xs : List A) → ((j : ℕ) (x : A) → get_elem? xs j ≡ some x → f x ≤ g x) → sum_by f xs ≤ sum_by g xs
  sum_le f g [] all = omega arith
  sum_le f g (a ∷ rest) all =
      let h = all 0 a refl in let t = sum_le f g rest (λ j x e. all (suc j) x e) in
      omega (arith, sum_by-cons f a rest, sum_by-cons g a rest)

  -- a fact of each member lasts where one is changed and has it
  pub each_set : (P : ℕ → A → Type 0) (xs : List A) (i : ℕ) (y : A) → P i y → ((j : ℕ) (x : A) → j ≢ i → get_elem? xs j ≡ some x → P j x)
      → (j : ℕ) (x : A) → get_elem? (set xs i y) j ≡ some x → P j x
  each_set P xs i y mine others j x e = ⊎_elim (λ (t : (j ≡ i) × (y ≡ x)). subst (λ (z : ℕ × A). P z.0 z.1) (λ k. (sym t.0 k, t.1 k)) mine)
      (λ (t : (j ≢ i) × (get_elem? xs j ≡ some x)). others j x t.0 t.1) (at_set xs i j y x e)

  -- a fact of each member lasts where one more has it
  pub each_snoc : (P : ℕ → A → Type 0) (xs : List A) (y : A) → ((j : ℕ) → P j y) → ((j : ℕ) (x : A) → get_elem? xs j ≡ some x → P j x) → (j : ℕ) (x : A) → get_elem? (xs ++ y ∷ []) j ≡ some x → P j x
  each_snoc P xs y mine others j x e = ⊎_elim (others j x) (λ (same : y ≡ x). subst (P j) same (mine j)) (at_snoc xs y x j e)

  pub at_index : (xs : List A) (i : ℕ) (x y : A) → get_elem? xs i ≡ some x → get_elem? xs i ≡ some y → x ≡ y
  at_index xs i x y a b = some-injective x y (sym a ∙ b)

  -- where one member is changed, no fact is shared that was not
  pub unique_set : (P : A → ℕ → Type 0) (xs : List A) (i : ℕ) (y : A) → ((j k : ℕ) (a b : A) (t : ℕ) → get_elem? xs j ≡ some a → get_elem? xs k ≡ some b → P a t → P b t → j ≡ k)
      → ((k : ℕ) (b : A) (t : ℕ) → k ≢ i → get_elem? xs k ≡ some b → P y t → P b t → ⊥)
      → (j k : ℕ) (a b : A) (t : ℕ) → get_elem? (set xs i y) j ≡ some a → get_elem? (set xs i y) k ≡ some b → P a t → P b t → j ≡ k
  unique_set P xs i y old new j k a b t ja kb pa pb = ⊎_elim
      (λ (l : (j ≡ i) × (y ≡ a)). ⊎_elim (λ (m : (k ≡ i) × (y ≡ b)). l.0 ∙ sym m.0)
      (λ (m : (k ≢ i) × (get_elem? xs k ≡ some b)). absurd (new k b t m.0 m.1 (subst (λ (z : A). P z t) (sym l.1) pa) pb)) (at_set xs i k y b kb))
      (λ (l : (j ≢ i) × (get_elem? xs j ≡ some a)). ⊎_elim (λ (m : (k ≡ i) × (y ≡ b)). absurd (new j a t l.0 l.1 (subst (λ (z : A). P z t) (sym m.1) pb) pa))
      (λ (m : (k ≢ i) × (get_elem? xs k ≡ some b)). old j k a b t l.1 m.1 pa pb) (at_set xs i k y b kb)) (at_set xs i j y a ja)

  -- what holds of each after the change holds of each before it, where it held of the one
  pub each_back : (Q : A → Type 0) (xs : List A) (i : ℕ) (x y : A) → get_elem? xs i ≡ some x → Q x → ((j : ℕ) (a : A) → get_elem? (set xs i y) j ≡ some a → Q a)
      → (j : ℕ) (a : A) → get_elem? xs j ≡ some a → Q a
  each_back Q xs i x y at mine all j a e = dite (ℕ_discrete j i)
      (λ is. subst Q (at_index xs i x a at (subst (λ (z : ℕ). get_elem? xs z ≡ some a) is e)) mine)
      (λ other. all j a (set_else xs i j y other ∙ e))

  -- the member j has Q
  abbrev pub Has : (A → Type 0) → List A → ℕ → Type 0
  Has Q xs j = (a : A) × (get_elem? xs j ≡ some a) × Q a

  pub inside : (xs : List A) (i : ℕ) (x : A) → get_elem? xs i ≡ some x → i < length xs
  inside [] i x e = absurd (some-ne-none x (sym e))
  inside (a ∷ rest) zero x e = omega arith
  inside (a ∷ rest) (suc i) x e = let h = inside rest i x e in omega arith

  -- the member that was written
  pub here : (xs : List A) (i : ℕ) (x y : A) → get_elem? xs i ≡ some x → get_elem? (set xs i y) i ≡ some y
  here xs i x y at = set_here xs i y (inside xs i x at)

  -- what one member has is still had
  pub still : (Q : A → Type 0) (xs : List A) (i : ℕ) (x y : A) → get_elem? xs i ≡ some x → (Q x → Q y) → (j : ℕ) → Has Q xs j → Has Q (set xs i y) j
  still Q xs i x y at keep j had = dite (ℕ_discrete j i)
      (λ is. (
        y,
        subst (λ (z : ℕ). get_elem? (set xs i y) z ≡ some y) (sym is) (here xs i x y at),
        keep (subst Q (at_index xs i had.0 x (subst (λ (z : ℕ). get_elem? xs z ≡ some had.0) is had.1) at) had.2),
      ))
      (λ other. (had.0, set_else xs i j y other ∙ had.1, had.2))
