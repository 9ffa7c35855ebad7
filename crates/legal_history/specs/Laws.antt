-- The laws of a store's history with an entry in doubt.
use Rattle.std.specs.Prelude.{◌≡◌, List, None, Some}
use Rattle.keyring.specs.Contents.{Contents}
use Rattle.repo_entries.specs.Items.{Item, left_of}
use Rattle.repo_entries.specs.declared.entry.Left.TheVariants.{Nothing}
use Rattle.legal_history.specs.Cores.{Core, Event, MayReopenAs, Runs, noted_by}
use Rattle.legal_history.specs.Histories.{Legal}

-- these events lead from a history without doubt to this core
abbrev pub LeadsTo : Contents → List Item → List Event → Core → Type 0
LeadsTo keyring first events core = Runs keyring (record { items = first; doubt = None }) events core

-- events keep a legal history legal
abbrev pub EventsKeepLegal : Type 0
EventsKeepLegal = (keyring : Contents) (first : List Item) (events : List Event) (core : Core)
    → Legal keyring first → LeadsTo keyring first events core → Legal keyring core.items

-- what a stop may leave of it is legal
abbrev pub StopsLeaveLegal : Type 0
StopsLeaveLegal = (keyring : Contents) (first : List Item) (events : List Event) (core : Core) (items : List Item)
    → Legal keyring first → LeadsTo keyring first events core → MayReopenAs core items → Legal keyring items

-- what is in doubt is what the last entry names of a call that left something
abbrev pub DoubtIsNamed : Type 0
DoubtIsNamed = (keyring : Contents) (first : List Item) (events : List Event) (core : Core) (item : Item)
    → LeadsTo keyring first events core → core.doubt ≡ Some item → noted_by Nothing core.items ≡ left_of item
