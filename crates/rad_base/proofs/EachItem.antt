-- Lists of which each item has a property, and lists in which no item stands twice.
use Rattle.std.proofs.Common.{◌≢◌, List, [], ◌∷◌, ◌++◌, subst, sym, ⊎_elim}
use Rattle.std.specs.Prelude.{Contains}
use Rattle.std.specs.List.{AllByRecursion}
use Rattle.rad_base.proofs.Members.{contains_nothing, contains_head, contains_tail, contains_cases}
use Rattle.rad_base.specs.Lists.{AllDiffer}

-- one more item that has the property
pub each_more : {X : Type 0} (P : X → Type 0) (xs : List X) (x : X) → AllByRecursion P xs → P x → AllByRecursion P (xs ++ x ∷ [])
each_more P [] x each is = (is, tt)
each_more P (y ∷ ys) x each is = (each.0, each_more P ys x each.1 is)

-- an item with others before and behind it has the property
pub each_between : {X : Type 0} (P : X → Type 0) (xs : List X) (x : X) (ys : List X) → AllByRecursion P (xs ++ x ∷ ys) → P x
each_between P [] x ys each = each.0
each_between P (y ∷ xs) x ys each = each_between P xs x ys each.1

-- a list whose items are all others does not contain this one
pub lacks_other : {X : Type 0} (x : X) (xs : List X) → AllByRecursion (λ y. x ≢ y) xs → Contains xs x → ⊥
lacks_other x [] each has = contains_nothing x has
lacks_other x (y ∷ ys) each has = ⊎_elim (λ same. each.0 (sym same)) (λ later. lacks_other x ys each.1 later) (contains_cases y ys x has)

-- the items of a list that does not contain this one are all others
pub others_from : {X : Type 0} (x : X) (xs : List X) → (Contains xs x → ⊥) → AllByRecursion (λ y. x ≢ y) xs
others_from x [] lacks = tt
others_from {X} x (y ∷ ys) lacks = (
  λ same. lacks (subst (λ (z : X). Contains (y ∷ ys) z) (sym same) (contains_head y ys)),
  others_from x ys (λ later. lacks (contains_tail y ys x later)),
)

-- one more item, which the list lacks
pub differ_more : {X : Type 0} (xs : List X) (x : X) → AllDiffer xs → (Contains xs x → ⊥) → AllDiffer (xs ++ x ∷ [])
differ_more [] x differ lacks = (tt, tt)
differ_more {X} (y ∷ ys) x differ lacks = (
  each_more (λ z. y ≢ z) ys x differ.0 (λ same. lacks (subst (λ (z : X). Contains (y ∷ ys) z) same (contains_head y ys))),
  differ_more ys x differ.1 (λ later. lacks (contains_tail y ys x later)),
)
