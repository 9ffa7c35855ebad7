-- What the run of a command leaves.
use Rattle.std.specs.Prelude.{◌≡◌, ◌⊎◌, ℕ, Bool, true, false, List, [], Option, IfSome}
use Rattle.std.specs.Io.KnownBytes.{Keeps}
use Rattle.rad_outside.specs.Disks.{Within}
use Rattle.ref_journal.specs.Images.{IsUnmade}
use Rattle.ref_journal.specs.Moments.{HasBodies}
use Rattle.rad_node.specs.Statuses.{IsOpeningEnd}
use Rattle.rad_node.specs.declared.command.Command.{Command}
use Rattle.rad_node.specs.declared.command.Command.TheVariants.{Init, Import, Show, Heads, Audit, Frames, Gen}
use Rattle.rad_node.specs.declared.status.Status.{Status}
use Rattle.rad_node.specs.declared.status.Status.TheVariants.{Ok, WriteFault, DiskFault, SomeRefused, AlreadyMade}

-- the run gave its report, or a prefix of it where the sink failed
abbrev pub HasReport : Status → Type 0
HasReport Ok = Unit {0}
HasReport SomeRefused = Unit {0}
HasReport WriteFault = Unit {0}
HasReport other = ⊥

-- the end of a run that gave its report, by whether something was refused and whether the sink failed
abbrev pub IsReportEnd : Bool → Type 0 → Status → Type 0
IsReportEnd refused fault status =
    ((status ≡ Ok) × (refused ≡ false)) ⊎ ((status ≡ SomeRefused) × (refused ≡ true)) ⊎ ((status ≡ WriteFault) × fault)

-- the run of a command that ended so wrote nothing to the disk
abbrev pub OnlyReadsDisk : Command → Status → Type 0
OnlyReadsDisk Init status = status ≡ AlreadyMade
OnlyReadsDisk Import status = IsOpeningEnd status
OnlyReadsDisk Show status = Unit {0}
OnlyReadsDisk Heads status = Unit {0}
OnlyReadsDisk Audit status = Unit {0}
OnlyReadsDisk Frames status = Unit {0}
OnlyReadsDisk (Gen commits) status = IsOpeningEnd status

-- the disk has the bytes from before, and a crash leaves nothing new, now or at any moment of the run
abbrev pub IsKept : Option (List ℕ) → Option (List ℕ) → (List ℕ → Type 0) → (List ℕ → Type 0) → (List ℕ → Type 0) → Type 0
IsKept old new before after since = Keeps old new × Within after before × Within since before

-- an image that a crash at any moment of the run may have left is one from before, or has P
abbrev pub LeavesAlso : (List ℕ → Type 0) → (List ℕ → Type 0) → (List ℕ → Type 0) → Type 0
LeavesAlso before since P = (image : List ℕ) → since image → before image ⊎ P image

-- no store was made, and every image that a crash now may leave is one without entries
abbrev pub IsMadeStore : Option (List ℕ) → (List ℕ → Type 0) → Type 0
IsMadeStore store images = IfSome store (λ bytes. IsUnmade bytes × Within images (HasBodies []))

-- the end of a making
abbrev pub IsMakingEnd : Option (List ℕ) → Type 0 → Type 0 → Status → Type 0
IsMakingEnd store disk out status =
    (status ≡ Ok) ⊎ ((status ≡ WriteFault) × out) ⊎ ((status ≡ DiskFault) × disk)
    ⊎ ((status ≡ AlreadyMade) × IfSome store (λ bytes. IsUnmade bytes → ⊥))
