-- Objects cut into batches, each the longest run that one put may have.
use Rattle.std.specs.Prelude.{◌≡◌, ◌⊎◌, List, [], ◌∷◌, ◌++◌}
use Rattle.commit_graph.specs.Objects.{Object}
use Rattle.repo_entries.specs.Batches.{IsRun, IsWithin}

-- the objects of the batches, in order
abbrev pub all_in : List (List Object) → List Object
all_in [] = []
all_in (batch ∷ batches) = batch ++ all_in batches

-- with the object that comes next the batch would pass the limits of several objects
abbrev pub IsFullBefore : List Object → List Object → Type 0
IsFullBefore batch [] = Unit {0}
IsFullBefore batch (next ∷ behind) = IsWithin (batch ++ next ∷ []) → ⊥

-- each is one object or several within the limits, and full before what follows
abbrev pub AreGreedy : List (List Object) → Type 0
AreGreedy [] = Unit {0}
AreGreedy (batch ∷ batches) =
    IsRun batch × IsFullBefore batch (all_in batches) × AreGreedy batches

-- these are the objects' batches
pub record IsCut (objects : List Object) (batches : List (List Object)) : Type 0 where
  pub all : objects ≡ all_in batches
  pub greedy : AreGreedy batches

-- of these objects, which more may follow, the first are put in these batches, and the others wait
-- in a batch that more objects may join
abbrev pub IsOpenCut : List Object → List (List Object) → List Object → Type 0
IsOpenCut objects puts [] = (objects ≡ []) × (puts ≡ [])
IsOpenCut objects puts (object ∷ more) = IsCut objects (puts ++ (object ∷ more) ∷ [])

-- the batches of these objects, of which the last is put or waits
abbrev pub IsFrontCut : List Object → List (List Object) → Type 0
IsFrontCut objects puts =
    ((waiting : List Object) × IsOpenCut objects puts waiting) ⊎ IsCut objects puts

-- objects are cut in one way
abbrev pub OneCut : Type 0
OneCut = (objects : List Object) (these those : List (List Object))
    → IsCut objects these → IsCut objects those → these ≡ those

-- what is put of a front of the objects is put first of all
abbrev pub FrontsArePutFirst : Type 0
FrontsArePutFirst = (objects more waiting : List Object) (puts batches : List (List Object))
    → IsOpenCut objects puts waiting → IsFrontCut (objects ++ more) batches
    → (rest : List (List Object)) × (batches ≡ puts ++ rest)
