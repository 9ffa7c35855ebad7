-- Walks from step to step, and what they come to.
use Rattle.std.specs.Prelude.{◌≡◌, List, [], ◌∷◌, Contains}

-- each item of the list is a step from the one before it; the first is a step from p, and the last is q
abbrev pub Walk : {X : Type 0} → (X → X → Type 0) → X → List X → X → Type 0
Walk Step p [] q = p ≡ q
Walk Step p (x ∷ xs) q = Step p x × Walk Step x xs q

-- a walk leads from a root to q
pub record Reached {X : Type 0} (Step : X → X → Type 0) (roots : List X) (q : X) : Type 0 where
  pub root : X
  pub among : Contains roots root
  pub path : List X
  pub walk : Walk Step root path q
