-- A history with the entry that is in doubt, and what happens to them.
use Rattle.std.specs.Prelude.{◌≡◌, ◌⊎◌, ℕ, List, [], ◌∷◌, ◌++◌, Option, None, Some}
use Rattle.rad_base.specs.declared.names.Rid.{Rid}
use Rattle.keyring.specs.Contents.{Contents}
use Rattle.repo_entries.specs.Items.{Item, claim, put, install, heard, missed, refused, left_of}
use Rattle.repo_entries.specs.declared.entry.Left.{Left}
use Rattle.repo_entries.specs.declared.entry.Left.TheVariants as lefts
use Rattle.repo_entries.specs.declared.whole.Whole.{Whole}
use Rattle.legal_history.specs.Durable.{IsDurable, durable_part, reopened}
use Rattle.legal_history.specs.Histories.{Lawful}

-- the history, and the entry that is in doubt
pub record Core : Type 0 where
  pub items : List Item
  pub doubt : Option Item

-- what happens
pub data Event : Type 0 where
  claims : Rid → ℕ → Event
  enters : Item → Event
  misses : Option Rid → ℕ → Event
  doubts : Option Rid → ℕ → Item → Event
  refuses : Rid → Whole → ℕ → Event
  mends : Event

-- the history with one entry more
abbrev pub grown : Core → Item → Option Item → Core
grown core item doubt = record { items = core.items ++ item ∷ []; doubt = doubt }

-- what an event asks of the core, and what it makes of it
abbrev pub Steps : Contents → Core → Event → Core → Type 0
Steps keyring old (claims rid caller) new = Lawful keyring old.items (claim rid caller) × (new ≡ grown old (claim rid caller) old.doubt)
Steps keyring old (enters item) new = (old.doubt ≡ None) × IsDurable item × Lawful keyring old.items item × (new ≡ grown old item None)
Steps keyring old (misses of caller) new = new ≡ grown old (missed of lefts.Nothing caller) old.doubt
Steps keyring old (doubts of caller item) new =
    (old.doubt ≡ None) × IsDurable item × Lawful keyring old.items item × (new ≡ grown old (missed of (left_of item) caller) (Some item))
Steps keyring old (refuses rid why caller) new =
    Lawful keyring old.items (refused rid why caller) × (new ≡ grown old (refused rid why caller) old.doubt)
Steps keyring old mends new = new ≡ record { items = old.items; doubt = None }

-- these events happen in order
abbrev pub Runs : Contents → Core → List Event → Core → Type 0
Runs keyring old [] new = new ≡ old
Runs keyring old (event ∷ events) new = (mid : Core) × Steps keyring old event mid × Runs keyring mid events new

-- what a stop may leave: the durable part, with what is in doubt or without it
abbrev pub MayReopenAs : Core → List Item → Type 0
MayReopenAs core items =
    (items ≡ durable_part core.items)
    ⊎ ((item : Item) × (core.doubt ≡ Some item) × (items ≡ durable_part core.items ++ reopened item ∷ []))

-- what is in doubt by the last call that left something, once an entry stands; a durable entry ends it
abbrev pub noted : Left → Item → Left
noted left (claim rid caller) = left
noted left (put rid batch caller) = lefts.Nothing
noted left (install rid id remotes caller) = lefts.Nothing
noted left (heard message caller) = lefts.Nothing
noted left (missed of lefts.Nothing caller) = left
noted left (missed of (lefts.Put names) caller) = lefts.Put names
noted left (missed of (lefts.Install offer) caller) = lefts.Install offer
noted left (missed of (lefts.Heard message) caller) = lefts.Heard message
noted left (refused rid why caller) = left

-- once entries stand, in order
abbrev pub noted_by : Left → List Item → Left
noted_by left [] = left
noted_by left (item ∷ items) = noted_by (noted left item) items
