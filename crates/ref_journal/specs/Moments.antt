-- What a crash leaves at any moment of a call.
use Rattle.std.specs.Prelude.{◌⊎◌, ℕ, ◌≤◌, List, [], ◌∷◌, ◌++◌, Option, None, Some}
use Rattle.rad_outside.specs.Disks.{Only, Torn, Writes}
use Rattle.ref_journal.specs.Frames.{gate_behind}
use Rattle.ref_journal.specs.Images.{IsJournal}

-- a crash at any moment since the first leaves an image that has P
pub record LeavesOnly (moment now : ℕ) (past since : ℕ → List ℕ → Type 0)
    (P : List ℕ → Type 0) : Type 0 where
  pub later : moment ≤ now
  pub each : (image : List ℕ) → since moment image → P image
  -- for a run that began earlier
  pub before : (t : ℕ) (image : List ℕ) → t ≤ moment → since t image → past t image ⊎ P image

-- the image is a journal of these bodies
abbrev pub HasBodies : List (List ℕ) → List ℕ → Type 0
HasBodies bodies image = IsJournal bodies (gate_behind bodies) image

-- the image is a journal of these bodies, with one more or without it
abbrev pub HasBodiesOrOneMore : List (List ℕ) → List ℕ → List ℕ → Type 0
HasBodiesOrOneMore bodies body image =
    HasBodies bodies image ⊎ HasBodies (bodies ++ body ∷ []) image

-- the image is a journal of these bodies, with the body in doubt or without it
abbrev pub MayHave : List (List ℕ) → Option (List ℕ) → List ℕ → Type 0
MayHave bodies None image = HasBodies bodies image
MayHave bodies (Some body) image = HasBodiesOrOneMore bodies body image

-- one of these images after a torn write of so many bytes at a place
abbrev pub TornOf : ℕ → ℕ → (List ℕ → Type 0) → List ℕ → Type 0
TornOf place n images image = (before : List ℕ) × images before × Torn place n before image

-- time goes on: an image since an earlier moment was one before, or has P
pub record Passes (moment now : ℕ) (past since : ℕ → List ℕ → Type 0) (P : List ℕ → Type 0)
    : Type 0 where
  pub later : moment ≤ now
  pub before : (t : ℕ) (image : List ℕ) → t ≤ moment → since t image → past t image ⊎ P image

-- a crash at any moment since the first leaves one of these images, as it was or after a torn write
abbrev pub LeavesTorn : ℕ → ℕ → ℕ → ℕ → (ℕ → List ℕ → Type 0) → (ℕ → List ℕ → Type 0)
    → (List ℕ → Type 0) → Type 0
LeavesTorn place n moment now past since images =
    Passes moment now past since (TornOf place n images)

-- new is old with these bytes at this place, and a crash now leaves nothing else
abbrev pub WritesDurably : ℕ → List ℕ → (List ℕ → Type 0) → List ℕ → List ℕ → Type 0
WritesDurably place bytes images old new = Writes place bytes old new × Only new images
