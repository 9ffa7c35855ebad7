-- The entries that a store has, its claims left out, and what its images are by them.
use Rattle.std.specs.Prelude.{◌≡◌, ◌⊎◌, ℕ, ◌<◌, ◌^◌, List, [], ◌∷◌, ◌++◌, Option, Some}
use Rattle.std.specs.List.{AllByRecursion}
use Rattle.rad_base.specs.declared.names.Rid.{Rid}
use Rattle.keyring.specs.Contents.{Contents}
use Rattle.ref_journal.specs.Holds.{LeavesOnlyBetween}
use Rattle.ref_journal.specs.Moments.{HasBodies}
use Rattle.repo_entries.specs.Items.{Item, claim, heard, install, left_of, missed, put, refused}
use Rattle.repo_entries.specs.declared.entry.Left.TheVariants.{Nothing}
use Rattle.entry_bodies.specs.Bodies.{body_of}
use Rattle.legal_history.specs.Cores.{Core}
use Rattle.legal_history.specs.Durable.{durable_part, reopened}
use Rattle.legal_history.specs.Histories.{Lawful, Legal}
use Rattle.object_store.specs.Bodies.{bodies_of}
use Rattle.object_store.specs.Shown.{Concerns}
use Rattle.object_store.specs.Stores.{IsOnDisk, StandsFor}
use Rattle.object_store.specs.declared.store.Store.{Store}

-- the entries without the claims
abbrev pub no_claims : List Item → List Item
no_claims [] = []
no_claims (claim rid caller ∷ items) = no_claims items
no_claims (put rid batch caller ∷ items) = put rid batch caller ∷ no_claims items
no_claims (install rid id remotes caller ∷ items) = install rid id remotes caller ∷ no_claims items
no_claims (heard message caller ∷ items) = heard message caller ∷ no_claims items
no_claims (missed of left caller ∷ items) = missed of left caller ∷ no_claims items
no_claims (refused rid why caller ∷ items) = refused rid why caller ∷ no_claims items

-- the entry is not durable and leaves nothing in doubt
abbrev pub IsQuiet : Item → Type 0
IsQuiet (claim rid caller) = Unit {0}
IsQuiet (put rid batch caller) = ⊥
IsQuiet (install rid id remotes caller) = ⊥
IsQuiet (heard message caller) = ⊥
IsQuiet (missed of left caller) = left ≡ Nothing
IsQuiet (refused rid why caller) = Unit {0}

-- a missed entry names this put or install of its repository, and no entry stands behind it that
-- is durable or leaves something in doubt
pub record IsLeftBy (items : List Item) (item : Item) : Type 0 where
  pub rid : Rid
  pub caller : ℕ
  pub concerns : Concerns rid item
  pub before : List Item
  pub behind : List Item
  pub all : items ≡ before ++ missed (Some rid) (left_of item) caller ∷ behind
  pub quiet : AllByRecursion IsQuiet behind

-- what is in doubt is what the last missed entry names that left something, and is lawful behind
-- the durable part
pub record IsDoubtKnown (keyring : Contents) (core : Core) : Type 0 where
  pub named : (item : Item) → core.doubt ≡ Some item → IsLeftBy core.items item
  pub lawful : (item : Item) → core.doubt ≡ Some item
      → Lawful keyring (durable_part core.items) (reopened item)

-- the image is a journal of the durable part of the entries, or of it and then the entry that the
-- last missed one names
abbrev pub IsImageOf : List Item → List ℕ → Type 0
IsImageOf items image = HasBodies (bodies_of (durable_part items)) image
    ⊎ ((item : Item) × IsLeftBy items item
    × HasBodies (bodies_of (durable_part items) ++ body_of item ∷ []) image)

-- the image is a journal of a legal history
abbrev pub ReopensLegal : Contents → List ℕ → Type 0
ReopensLegal keyring image =
    (items : List Item) × Legal keyring items × HasBodies (bodies_of items) image

-- The image is one of the first of these entries, all of those that stood at the start among them:
-- of some front of the list, or of it and then the entry that its last missed one names. It is a
-- journal of a legal history.
pub record IsPastImage (keyring : Contents) (first items : List Item) (image : List ℕ)
    : Type 0 where
  pub done : List Item
  pub rest : List Item
  pub all : items ≡ (first ++ done) ++ rest
  pub has : IsImageOf (first ++ done) image
  pub legal : ReopensLegal keyring image

-- a journal with this end was within its limit when it got the last of these entries that is durable
abbrev pub EndsWithin : ℕ → List Item → Type 0
EndsWithin end items = (durable_part items ≡ []) ⊎ (end < 2 ^ 40)

-- a disk as it was at a moment, and the entries that stood then
pub record Start (D : Type 0) : Type 0 where
  pub disk : D
  pub items : List Item

-- The store stands for these entries and its claims, its disk tells their durable part, and what is
-- in doubt is known. The entries of the start come first, and the journal had room for those behind
-- them. A crash at any moment since the start leaves an image of the first of the entries.
pub record IsMade {D : Type 0} (reads : D → Option (List ℕ)) (images : D → List ℕ → Type 0)
    (moment : D → ℕ) (since : D → ℕ → List ℕ → Type 0) (store : Store D) (start : Start D)
    (items : List Item) : Type 0 where
  pub core : Core
  pub entries : items ≡ no_claims core.items
  pub stands : StandsFor store core.items
  pub disk : IsOnDisk reads images store core
  pub doubt : IsDoubtKnown store.keyring core
  pub added : List Item
  pub all : items ≡ start.items ++ added
  pub room : EndsWithin store.journal.end added
  pub time : LeavesOnlyBetween moment since start.disk store.journal.disk
      (IsPastImage store.keyring start.items items)
