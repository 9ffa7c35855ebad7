-- What making a journal answers.
use Rattle.std.specs.Prelude.{◌≢◌, ◌⊎◌, ℕ, ◌≤◌, List, [], Option, None, Result, Ok, Err}
use Rattle.std.specs.Prelude.{length, slice_index}
use Rattle.rad_base.specs.Faults.{Rose}
use Rattle.ref_journal.specs.Holds.{Holds}
use Rattle.ref_journal.specs.Images.{IsUnmade}
use Rattle.ref_journal.specs.Moments.{HasBodies}
use Rattle.ref_journal.specs.declared.journal.Journal.{Journal}
use Rattle.ref_journal.specs.declared.faults.MakeFault.{MakeFault}
use Rattle.ref_journal.specs.declared.faults.MakeFault.TheVariants.{DiskFault, AlreadyMade}

-- the disk that a refusal gives back
abbrev pub disk_in_make_fault : {D : Type 0} → MakeFault D → D
disk_in_make_fault (DiskFault disk) = disk
disk_in_make_fault (AlreadyMade disk) = disk

-- the disk that comes back, in the journal or in the refusal
abbrev pub made_disk : {D : Type 0} → Result (Journal D) (MakeFault D) → D
made_disk (Ok journal) = journal.disk
made_disk (Err fault) = disk_in_make_fault fault

-- a disk fault comes only where the count rose
abbrev pub HasMakeCause : {D : Type 0} → ℕ → (D → ℕ) → MakeFault D → Type 0
HasMakeCause before faults (DiskFault disk) = Rose before (faults disk)
HasMakeCause before faults (AlreadyMade disk) = Unit {0}

-- The answer says whether these bytes are made, and at Ok every image is a journal without a body.
-- A disk fault says nothing.
abbrev pub IsMade : {D : Type 0} → (D → Option (List ℕ)) → (D → List ℕ → Type 0) → List ℕ
    → Result (Journal D) (MakeFault D) → Type 0
IsMade reads images bytes (Ok journal) = IsUnmade bytes × Holds reads images journal [] None
IsMade reads images bytes (Err (DiskFault disk)) = Unit {0}
IsMade reads images bytes (Err (AlreadyMade disk)) = IsUnmade bytes → ⊥

-- there is a first byte, and it is not the made mark
pub record HasNoMark (bytes : List ℕ) : Type 0 where
  pub first : 1 ≤ length bytes
  pub other : slice_index bytes 0 ≢ 1

-- no journal is made, or it has no body
abbrev pub IsUnmadeOrEmpty : List ℕ → Type 0
IsUnmadeOrEmpty bytes = IsUnmade bytes ⊎ HasBodies [] bytes
