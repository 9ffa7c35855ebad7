-- What of a history a disk keeps.
use Rattle.std.specs.Prelude.{List, [], ◌∷◌}
use Rattle.repo_entries.specs.Items.{Item, claim, put, install, heard, missed, refused}

-- a disk keeps the entry
abbrev pub IsDurable : Item → Type 0
IsDurable (claim rid caller) = ⊥
IsDurable (put rid batch caller) = Unit {0}
IsDurable (install rid id remotes caller) = Unit {0}
IsDurable (heard message caller) = Unit {0}
IsDurable (missed of left caller) = ⊥
IsDurable (refused rid why caller) = ⊥

-- the entry as it is read again, with the caller 0
abbrev pub reopened : Item → Item
reopened (claim rid caller) = claim rid 0
reopened (put rid batch caller) = put rid batch 0
reopened (install rid id remotes caller) = install rid id remotes 0
reopened (heard message caller) = heard message 0
reopened (missed of left caller) = missed of left 0
reopened (refused rid why caller) = refused rid why 0

-- the durable part of a history: its puts, its installs and what it heard, each with the caller 0
abbrev pub durable_part : List Item → List Item
durable_part [] = []
durable_part (claim rid caller ∷ items) = durable_part items
durable_part (put rid batch caller ∷ items) = put rid batch 0 ∷ durable_part items
durable_part (install rid id remotes caller ∷ items) = install rid id remotes 0 ∷ durable_part items
durable_part (heard message caller ∷ items) = heard message 0 ∷ durable_part items
durable_part (missed of left caller ∷ items) = durable_part items
durable_part (refused rid why caller ∷ items) = durable_part items
