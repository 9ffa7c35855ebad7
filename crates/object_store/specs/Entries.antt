-- What a refused call leaves of its entry.
use Rattle.std.specs.Prelude.{ℕ, Bool, true, false, Option}
use Rattle.rad_base.specs.declared.names.Rid.{Rid}
use Rattle.repo_entries.specs.declared.entry.Entry.{Entry}
use Rattle.repo_entries.specs.declared.entry.Entry.TheVariants.{Claim, Put, Install, Heard}
use Rattle.repo_entries.specs.declared.entry.Entry.TheVariants.{Missed, Refused}
use Rattle.repo_entries.specs.declared.entry.Left.{Left}
use Rattle.repo_entries.specs.declared.entry.Left.TheVariants as lefts

-- what a call that had this entry to write leaves in doubt
abbrev pub left_by : Entry → Left
left_by (Claim rid caller) = lefts.Nothing
left_by (Put rid names caller) = lefts.Put names
left_by (Install rid id remotes caller) = lefts.Install (record { id = id; remotes = remotes })
left_by (Heard message caller) = lefts.Heard message
left_by (Missed of left caller) = lefts.Nothing
left_by (Refused rid why caller) = lefts.Nothing

-- what is left in doubt, if anything is
abbrev pub left_if : Bool → Entry → Left
left_if true entry = left_by entry
left_if false entry = lefts.Nothing

-- the entry of a call, for a repository or for the announcements, that had this entry to write and
-- met a fault of the disk
abbrev pub missed_entry : Entry → Option Rid → ℕ → Bool → Entry
missed_entry entry of caller in_doubt = Missed of (left_if in_doubt entry) caller
