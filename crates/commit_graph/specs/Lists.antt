-- Lists without repeats, and what is added to them.
use Rattle.std.specs.Prelude.{◌≡◌, ◌≤◌, List, [], ◌∷◌, ◌++◌, ◌⊎◌, length, Contains}
use Rattle.std.specs.declared.cmp.Ordering.{Ordering}
use Rattle.std.specs.Ordering.{eq_by_cmp}
use Rattle.std.specs.List.{list_any, IsDistinct}
use Rattle.std.specs.BTreeSet.{BTreeSet, contains}

-- the marks are the items of the list, which has no repeat
pub record IsMarked {X : Type 0} (cmp : X → X → Ordering) (marks : BTreeSet X) (items : List X) : Type 0 where
  pub same : (x : X) → contains cmp marks x ≡ list_any (eq_by_cmp cmp x) items
  pub distinct : IsDistinct (eq_by_cmp cmp) items

-- x is at the end of the new list, unless the old one has it
abbrev pub Adds : {X : Type 0} → List X → X → List X → Type 0
Adds old x new = (Contains old x × (new ≡ old)) ⊎ ((Contains old x → ⊥) × (new ≡ old ++ x ∷ []))

-- new is old with the items of xs at its end that it lacked, no more than those of xs
pub record Extends {X : Type 0} (old xs new : List X) : Type 0 where
  pub more : List X
  pub is : new ≡ old ++ more
  pub few : length more ≤ length xs
  pub has : (x : X) → Contains xs x → Contains new x
  pub from : (x : X) → Contains more x → Contains xs x

-- the new list is the old one with the steps from x at its end that it lacked
pub record Follows {X : Type 0} (Step : X → X → Type 0) (x : X) (old new : List X) : Type 0 where
  pub steps : List X
  pub all : (y : X) → Step x y → Contains steps y
  pub only : (y : X) → Contains steps y → Step x y
  pub grown : Extends old steps new
