-- Of items that a relation compares, one is above all, or two are beside each other.
use Rattle.std.proofs.Common.{List, [], ◌∷◌, inl, inr, ◌⊎◌, ⊎_elim, subst}
use Rattle.std.specs.Prelude.{Contains}
use Rattle.rad_base.proofs.Members.{contains_nothing, contains_head, contains_tail, contains_cases}

-- an item of the list that is above each of them
pub record HasAbove {X : Type 0} (R : X → X → Type 0) (xs : List X) : Type 0 where
  pub top : X
  pub among : Contains xs top
  pub above : (x : X) → Contains xs x → R x top

-- two items of the list, of which neither is above the other
pub record HasBeside {X : Type 0} (R : X → X → Type 0) (xs : List X) : Type 0 where
  pub one : X
  pub other : X
  pub one_in : Contains xs one
  pub other_in : Contains xs other
  pub beside : (R one other → ⊥) × (R other one → ⊥)

module _ {X : Type 0} (R : X → X → Type 0) (itself : (x : X) → R x x) (along : (x y z : X) → R x y → R y z → R x z) where
  -- one or the other, where the relation is decided among the items
  pub above_or_beside : (x : X) (xs : List X) → ((y z : X) → Contains (x ∷ xs) y → Contains (x ∷ xs) z → R y z ⊎ (R y z → ⊥)) → HasAbove R (x ∷ xs) ⊎ HasBeside R (x ∷ xs)
  above_or_beside x [] decide = inl (record {
    top = x;
    among = contains_head x [];
    above = λ y c. ⊎_elim (λ e. subst (λ (z : X). R z x) e (itself x)) (λ d. absurd (contains_nothing y d)) (contains_cases x [] y c);
  })
  above_or_beside x (y ∷ ys) decide = ⊎_elim
      (λ a. ⊎_elim
      (λ r. inl (record {
        top = a.top;
        among = contains_tail x (y ∷ ys) a.top a.among;
        above = λ z c. ⊎_elim (λ e. subst (λ (w : X). R w a.top) e r) (λ d. a.above z d) (contains_cases x (y ∷ ys) z c);
      }))
      (λ no_r. ⊎_elim
      (λ s. inl (record {
        top = x;
        among = contains_head x (y ∷ ys);
        above = λ z c. ⊎_elim (λ e. subst (λ (w : X). R w x) e (itself x)) (λ d. along z a.top x (a.above z d) s) (contains_cases x (y ∷ ys) z c);
      }))
      (λ no_s. inr (record {
        one = x;
        other = a.top;
        one_in = contains_head x (y ∷ ys);
        other_in = contains_tail x (y ∷ ys) a.top a.among;
        beside = (no_r, no_s);
      }))
      (decide a.top x (contains_tail x (y ∷ ys) a.top a.among) (contains_head x (y ∷ ys))))
      (decide x a.top (contains_head x (y ∷ ys)) (contains_tail x (y ∷ ys) a.top a.among)))
      (λ b. inr (record {
        one = b.one;
        other = b.other;
        one_in = contains_tail x (y ∷ ys) b.one b.one_in;
        other_in = contains_tail x (y ∷ ys) b.other b.other_in;
        beside = b.beside;
      }))
      (above_or_beside y ys (λ v w c d. decide v w (contains_tail x (y ∷ ys) v c) (contains_tail x (y ∷ ys) w d)))
