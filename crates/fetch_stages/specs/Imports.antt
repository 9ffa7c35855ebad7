-- The import of a bundle.
use Rattle.std.specs.Prelude.{◌≡◌, ◌⊎◌, ℕ, ◌+◌, ◌<◌, ◌==◌, false, if◌then◌else◌, List, [], ◌++◌, length, Option, None, Some, Result, Ok, Err}
use Rattle.std.specs.Option.{ForSome}
use Rattle.std.specs.Io.KnownBytes.{Consumes, IsAtEnd}
use Rattle.rad_base.specs.Sizes.{IsOid}
use Rattle.rad_base.specs.declared.names.Rid.{Rid}
use Rattle.canonical_head.specs.declared.answer.Head.{Head}
use Rattle.repo_entries.specs.Items.{Item}
use Rattle.repo_entries.specs.declared.whole.Whole.{Whole}
use Rattle.repo_slice.specs.Heads.{IsHeadOf}
use Rattle.repo_slice.specs.Keeps.{Constants, HasSlice, Held, HeldBehind, IsOtherName, Makes, StopsIn}
use Rattle.repo_slice.specs.declared.keep_fault.KeepFault.TheVariants as fault
use Rattle.repo_slice.specs.declared.scope.Scope.TheVariants.{All}
use Rattle.repo_slice.specs.declared.verdict.Judged.{Judged}
use Rattle.fetch_wire.specs.Judging.{further}
use Rattle.fetch_stages.specs.Jobs.{Breaks, EndsIn, IsJob, JobStop, NotServed, Passed, Reaches, Setting, TooLong}
use Rattle.fetch_stages.specs.declared.job_end.ImportEnd.{ImportEnd}
use Rattle.fetch_stages.specs.declared.job_end.ImportEnd.TheVariants as import
use Rattle.fetch_stages.specs.declared.job_end.JobEnd.TheVariants as job

-- Where an import stops by its bytes: at the broken unit at a place, or where the bundle has ended and
-- bytes follow; inside the unit at a place; at the verdict on a repository's offer, on what is held
-- then, or behind its last section where no verdict is said; past the limit of a job's sections.
pub data Came : Type 0 where
  Bad : ℕ → Came
  Inside : ℕ → Came
  Verdict : Rid → Held → Result Judged Whole → Came
  Unjudged : Rid → Came
  Long : Rid → Came

-- what the stop of its job makes of an import of so many bytes
abbrev pub came_of : Rid → ℕ → JobStop → Came
came_of rid count (Reaches held verdict place) =
    if count == 20 + place then Verdict rid held verdict else Bad (20 + place)
came_of rid count (Passed place) = Unjudged rid
came_of rid count (NotServed code shown) = Bad (further 20 shown)
came_of rid count (Breaks place shown) = Bad (further 20 place)
came_of rid count (EndsIn place) = Inside (further 20 place)
came_of rid count TooLong = Long rid

-- the setting of a bundle's job
abbrev pub setting_of : Constants → Rid → Setting
setting_of constants rid = record { rid = rid; constants = constants; scope = All; may_decline = false }

-- the bytes begin with the 20 bytes of a repository's name
abbrev pub IsNamedBy : List ℕ → Rid → Type 0
IsNamedBy bytes rid = IsOid rid.0 × ((rest : List ℕ) × (bytes ≡ rid.0.0 ++ rest))

-- the bytes have a repository's name, and the job of what follows it gives these entries and stops so
pub record HasJob (constants : Constants) (held : Rid → Held) (bytes : List ℕ) (entries : List Item) (came : Came) : Type 0 where
  pub rid : Rid
  pub name : IsOid rid.0
  pub rest : List ℕ
  pub text : bytes ≡ rid.0.0 ++ rest
  pub stop : JobStop
  pub job : IsJob (setting_of constants rid) (held rid) rest entries stop
  pub came_is : came ≡ came_of rid (length bytes) stop

-- the job of a bundle's bytes
abbrev pub IsBundleJob : Constants → (Rid → Held) → List ℕ → List Item → Came → Type 0
IsBundleJob constants held bytes entries came =
    ((length bytes < 20) × (entries ≡ []) × (came ≡ Inside 0)) ⊎ HasJob constants held bytes entries came

-- where the objects are told, this is the head
abbrev pub IsHeadOn : Constants → Held → Head → Type 0
IsHeadOn constants held head =
    ForSome held.objects (λ objects. IsHeadOf objects constants.keyring held.state (Some head))

-- What was made of a job's entries, by the end that is answered: all of them, where the job stopped by
-- its bytes or the input failed; those before the call that was refused; none, where memory was refused
-- before the repository was known. Once the bundle has ended and is judged, what is held then is what
-- the verdict leaves of what was judged.
abbrev pub EndsBy : {K O : Type 0} → (K → O → List Item → Type 0) → Constants → ℕ → K → K → (Rid → Held) → Type 0
    → List Item → Came → ImportEnd → Type 0
EndsBy made constants end old new held at_end entries came (import.Ended rid (job.Done judged head)) =
    (on : Held) × (came ≡ Verdict rid on (Ok judged)) × at_end × Makes made old new entries
    × HeldBehind on (Ok judged) (held rid) × IsHeadOn constants (held rid) head
EndsBy made constants end old new held at_end entries came (import.Ended rid (job.Refused why)) =
    (on : Held) × (came ≡ Verdict rid on (Err why)) × at_end × Makes made old new entries
    × HasSlice on.state on.objects (held rid)
EndsBy made constants end old new held at_end entries came (import.Ended rid job.TooLong) =
    (came ≡ Long rid) × Makes made old new entries
EndsBy made constants end old new held at_end entries came (import.Ended rid job.DiskFault) =
    StopsIn made rid constants.caller end old new entries fault.DiskFault
EndsBy made constants end old new held at_end entries came (import.Ended rid job.Full) =
    StopsIn made rid constants.caller end old new entries fault.Full
EndsBy made constants end old new held at_end entries came (import.Ended rid (job.Changed change)) =
    StopsIn made rid constants.caller end old new entries (fault.Changed change)
EndsBy made constants end old new held at_end entries came (import.Ended rid job.NoMemory) =
    StopsIn made rid constants.caller end old new entries fault.NoMemory
EndsBy made constants end old new held at_end entries came import.ReadFault = Makes made old new entries
EndsBy made constants end old new held at_end entries came (import.InputBad place) =
    ((came ≡ Bad place) ⊎ ((came ≡ Inside place) × at_end)) × Makes made old new entries
EndsBy made constants end old new held at_end entries came import.NoMemory = Makes made old new []

-- the job stopped by its bytes
abbrev pub IsWhole : ImportEnd → Type 0
IsWhole (import.Ended rid (job.Done judged head)) = Unit {0}
IsWhole (import.Ended rid (job.Refused why)) = Unit {0}
IsWhole (import.Ended rid job.TooLong) = Unit {0}
IsWhole (import.Ended rid job.DiskFault) = ⊥
IsWhole (import.Ended rid job.Full) = ⊥
IsWhole (import.Ended rid (job.Changed change)) = ⊥
IsWhole (import.Ended rid job.NoMemory) = ⊥
IsWhole import.ReadFault = ⊥
IsWhole (import.InputBad place) = Unit {0}
IsWhole import.NoMemory = ⊥

-- a job that has ended is that of the repository which these bytes name
abbrev pub IsEndOf : List ℕ → ImportEnd → Type 0
IsEndOf bytes (import.Ended rid end) = IsNamedBy bytes rid
IsEndOf bytes import.ReadFault = Unit {0}
IsEndOf bytes (import.InputBad place) = Unit {0}
IsEndOf bytes import.NoMemory = Unit {0}

-- what is held of each repository but the one that these bytes name is as before
abbrev pub KeepsUnnamed : List ℕ → (Rid → Held) → (Rid → Held) → Type 0
KeepsUnnamed bytes old new = (other : Rid) → (IsNamedBy bytes other → ⊥) → new other ≡ old other

-- Bytes were taken from the input, and a front of them was read: all of them, where the job stopped by
-- its bytes. The job of what was read has these entries, of which those that the end says were made.
pub record Imports {K O : Type 0} (made : K → O → List Item → Type 0) (constants : Constants) (end : ℕ) (held finally : Rid → Held)
    (old new : K) (before after : Option (List ℕ)) (result : ImportEnd) : Type 0 where
  pub taken : List ℕ
  pub consumed : Consumes before after taken
  pub bytes : List ℕ
  pub unread : List ℕ
  pub text : taken ≡ bytes ++ unread
  pub whole : IsWhole result → unread ≡ []
  pub entries : List Item
  pub came : Came
  pub job : IsBundleJob constants held bytes entries came
  pub ends : EndsBy made constants end old new finally (IsAtEnd after) entries came result
  pub named : IsEndOf bytes result
  pub others : KeepsUnnamed bytes held finally

-- A fault is answered only where its cause is there: one of the input, one of the disk, or bytes that
-- were read back and have another name, which are never met where the objects are told.
abbrev pub IsImportCause : Type 0 → Type 0 → (Rid → Held) → ImportEnd → Type 0
IsImportCause input disk held (import.Ended rid (job.Done judged head)) = Unit {0}
IsImportCause input disk held (import.Ended rid (job.Refused why)) = Unit {0}
IsImportCause input disk held (import.Ended rid job.TooLong) = Unit {0}
IsImportCause input disk held (import.Ended rid job.DiskFault) = disk
IsImportCause input disk held (import.Ended rid job.Full) = Unit {0}
IsImportCause input disk held (import.Ended rid (job.Changed change)) =
    ((held rid).objects ≡ None) × IsOtherName change
IsImportCause input disk held (import.Ended rid job.NoMemory) = Unit {0}
IsImportCause input disk held import.ReadFault = input
IsImportCause input disk held (import.InputBad place) = Unit {0}
IsImportCause input disk held import.NoMemory = Unit {0}
