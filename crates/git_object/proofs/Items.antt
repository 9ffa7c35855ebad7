-- Values that stand one behind the other, where each one read leaves less to read.
use Rattle.std.proofs.Common.{◌≡◌, ℕ, zero, suc, ◌<◌, ◌≤◌, List, [], ◌∷◌, length, Option, Some, None, refl, ap, arith}
use Rattle.git_object.specs.Reading.{items_in, items_within}

-- each value that is read leaves less to read
abbrev pub Shrinks : {A : Type 0} → (List ℕ → Option (A × List ℕ)) → Type 0
Shrinks {A} front = (bytes : List ℕ) (r : A × List ℕ) → front bytes ≡ Some r → length r.1 < length bytes

module _ {A : Type 0} {front : List ℕ → Option (A × List ℕ)} (shrinks : Shrinks front) where
  -- a count that is no less than the bytes reads all
  enough : (n m : ℕ) (bytes : List ℕ) (o : Option (A × List ℕ)) → front bytes ≡ o → length bytes ≤ n → length bytes ≤ m
      → items_within front n bytes ≡ items_within front m bytes
  enough zero zero bytes o e hn hm = refl
  enough zero (suc m) bytes None e hn hm = rw e refl
  enough zero (suc m) bytes (Some r) e hn hm = absurd (omega (arith, shrinks bytes r e))
  enough (suc n) zero bytes None e hn hm = rw e refl
  enough (suc n) zero bytes (Some r) e hn hm = absurd (omega (arith, shrinks bytes r e))
  enough (suc n) (suc m) bytes None e hn hm = rw e refl
  enough (suc n) (suc m) bytes (Some r) e hn hm =
      let less = shrinks bytes r e in
      rw e (ap (λ (l : List A). r.0 ∷ l) (enough n m r.1 (front r.1) refl (omega (arith, less)) (omega (arith, less))))

  -- the value that is read is the first
  pub items_first : (bytes : List ℕ) (r : A × List ℕ) → front bytes ≡ Some r → items_in front bytes ≡ r.0 ∷ items_in front r.1
  items_first bytes r h = go bytes (length bytes) refl h
    where
      go : (bytes : List ℕ) (n : ℕ) → length bytes ≡ n → front bytes ≡ Some r → items_within front n bytes ≡ r.0 ∷ items_in front r.1
      go bytes zero e h = absurd (omega (arith, shrinks bytes r h))
      go bytes (suc n) e h = rw h (ap (λ (l : List A). r.0 ∷ l) (enough n (length r.1) r.1 (front r.1) refl (omega (arith, e, shrinks bytes r h)) (omega arith)))

  -- none is left where none is read
  pub items_none : (bytes : List ℕ) → front bytes ≡ None → items_in front bytes ≡ []
  items_none bytes h = go (length bytes)
    where
      go : (n : ℕ) → items_within front n bytes ≡ []
      go zero = refl
      go (suc n) = rw h refl
