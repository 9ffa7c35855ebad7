-- What each command did.
use Rattle.std.specs.Prelude.{◌⊎◌, ℕ, List, None, IfSome, codes}
use Rattle.ref_journal.specs.Images.{IsUnmade}
use Rattle.rad_node.specs.Generating.{ImportsGenerated}
use Rattle.rad_node.specs.Imports.{Imported}
use Rattle.rad_node.specs.Listing.{Listed}
use Rattle.rad_node.specs.Printing.{Printed}
use Rattle.rad_node.specs.Runs.{HasReport, IsMadeStore}
use Rattle.rad_node.specs.Statuses.{Files, IsOpeningEnd}
use Rattle.rad_node.specs.declared.command.Command.{Command}
use Rattle.rad_node.specs.declared.command.Command.TheVariants as command
use Rattle.rad_node.specs.declared.printing.Report.TheVariants.{Show, Heads, Audit}
use Rattle.rad_node.specs.declared.status.Status.{Status}
use Rattle.rad_node.specs.declared.status.Status.TheVariants.{DiskFault, NoMemory}

-- an import that ends so may not have opened its store
abbrev pub MayBeUnopened : Status → Type 0
MayBeUnopened DiskFault = Unit {0}
MayBeUnopened NoMemory = Unit {0}
MayBeUnopened other = IsOpeningEnd other

-- An empty store was made, and one that was made before is as it was; or a bundle, or that of a repository made by
-- rule, was imported, or the store was not opened, and it and the bundle are as before; or a report of what the
-- store has was given; or the frames of an input were listed.
abbrev pub IsDone : Command → Files → (List ℕ → Type 0) → Type 0 → (List ℕ → Type 0)
    → ((List ℕ → Type 0) → Type 0) → (List ℕ → Type 0) → Type 0 → Status → Type 0
IsDone command.Init files consumed at_end images leaves gives kept status =
    (HasReport status → IsMadeStore files.store images × gives (codes "made\n"))
    × IfSome files.store (λ bytes. (IsUnmade bytes → ⊥) → kept)
IsDone command.Import files consumed at_end images leaves gives kept status =
    Imported None files consumed at_end images leaves gives status ⊎ (MayBeUnopened status × kept)
IsDone command.Show files consumed at_end images leaves gives kept status = HasReport status → Printed Show files gives
IsDone command.Heads files consumed at_end images leaves gives kept status = HasReport status → Printed Heads files gives
IsDone command.Audit files consumed at_end images leaves gives kept status = HasReport status → Printed Audit files gives
IsDone command.Frames files consumed at_end images leaves gives kept status = Listed consumed at_end gives status
IsDone (command.Gen commits) files consumed at_end images leaves gives kept status =
    ImportsGenerated commits files.store images leaves gives status ⊎ (MayBeUnopened status × kept)
