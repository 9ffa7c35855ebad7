-- What opening a store for a command answers.
use Rattle.std.specs.Prelude.{ℕ, List, Option, None, Result, Ok, Err, IfSome}
use Rattle.ref_journal.specs.Holds.{Holds}
use Rattle.ref_journal.specs.Images.{IsUnmade}
use Rattle.repo_entries.specs.Items.{Item}
use Rattle.object_store.specs.Bodies.{bodies_of}
use Rattle.object_store.specs.Opened.{IsStoreImage}
use Rattle.object_store.specs.Stores.{StandsFor}
use Rattle.object_store.specs.declared.faults.Why.{Why}
use Rattle.object_store.specs.declared.faults.Why.TheVariants as why
use Rattle.object_store.specs.declared.store.Store.{Store}
use Rattle.rad_node.specs.Statuses.{Files, HasKeyring, IsBadKeyring, IsDamagedStore, IsIllegalStore, SaysKeyring}
use Rattle.rad_node.specs.declared.opening.Refusal.{Refusal}
use Rattle.rad_node.specs.declared.status.Status.{Status}
use Rattle.rad_node.specs.declared.status.Status.TheVariants as status
use Rattle.rad_node.specs.declared.status.WhichSource.TheVariants as source

-- the disk that comes back, in the store or in the refusal
abbrev pub disk_of_opening : {D : Type 0} → Result (Store D) (Refusal D) → D
disk_of_opening (Ok store) = store.journal.disk
disk_of_opening (Err refusal) = refusal.disk

-- why a keyring file is not read
abbrev pub IsKeyringFault : Option (List ℕ) → Type 0 → Status → Type 0
IsKeyringFault file fault (status.ReadFault source.Keys) = fault
IsKeyringFault file fault (status.KeyringBad line) = IfSome file (IsBadKeyring line)
IsKeyringFault file fault status.NoMemory = Unit {0}
IsKeyringFault file fault other = ⊥

-- why no store is opened
abbrev pub IsOpeningFault : Files → Type 0 → Type 0 → Status → Type 0
IsOpeningFault files keys disk status.DiskFault = disk × HasKeyring files
IsOpeningFault files keys disk status.Unmade = HasKeyring files × IfSome files.store IsUnmade
IsOpeningFault files keys disk (status.Damaged place) = HasKeyring files × IfSome files.store (IsDamagedStore place)
IsOpeningFault files keys disk (status.NotLegal n) = IfSome files.store (IsIllegalStore files n)
IsOpeningFault files keys disk other = IsKeyringFault files.keyring keys other

-- the end of a run whose store does not open
abbrev pub status_of : Why → Status
status_of why.DiskFault = status.DiskFault
status_of why.Unmade = status.Unmade
status_of (why.Damaged place) = status.Damaged place
status_of (why.NotLegal n) = status.NotLegal n
status_of why.NoMemory = status.NoMemory

-- the store has the keyring of its file, and stands for the entries of which its bytes are a journal
pub record HasOpened {D : Type 0} (reads : D → Option (List ℕ)) (images : D → List ℕ → Type 0) (files : Files) (store : Store D) : Type 0 where
  pub stored : List Item
  pub keys : IfSome files.keyring (λ file. SaysKeyring file store.keyring)
  pub stands : StandsFor store stored
  pub image : IfSome files.store (λ bytes. IsStoreImage bytes stored × Holds reads images store.journal (bodies_of stored) None)
