-- What opening a store answers.
use Rattle.std.specs.Prelude.{◌≡◌, ◌⊎◌, ℕ, List, Option, None, Result, Ok, Err}
use Rattle.std.specs.List.{AllByRecursion}
use Rattle.keyring.specs.Contents.{Contents}
use Rattle.rad_base.specs.Faults.{Rose}
use Rattle.ref_journal.specs.Holds.{Holds}
use Rattle.ref_journal.specs.Images.{IsDamagedAt, IsJournal, IsUnmade}
use Rattle.repo_entries.specs.Items.{Item}
use Rattle.entry_bodies.specs.Bodies.{HasBody}
use Rattle.object_store.specs.Bodies.{bodies_of}
use Rattle.object_store.specs.Opens.{IsIllegalAt, IsNoEntryAt}
use Rattle.object_store.specs.Stores.{StandsFor}
use Rattle.object_store.specs.declared.faults.StoreFault.{StoreFault}
use Rattle.object_store.specs.declared.faults.Why.{Why}
use Rattle.object_store.specs.declared.faults.Why.TheVariants.{DiskFault, Unmade, Damaged}
use Rattle.object_store.specs.declared.faults.Why.TheVariants.{NotLegal, NoMemory}
use Rattle.object_store.specs.declared.store.Store.{Store}

-- the disk that comes back, in the store or in the refusal
abbrev pub disk_of_opened : {D : Type 0} → Result (Store D) (StoreFault D) → D
disk_of_opened (Ok store) = store.journal.disk
disk_of_opened (Err fault) = fault.disk

-- the bytes are a journal of the bodies of these entries, each of which has one
pub record IsStoreImage (bytes : List ℕ) (items : List Item) : Type 0 where
  pub had_bodies : AllByRecursion HasBody items
  pub end : ℕ
  pub journal : IsJournal (bodies_of items) end bytes

-- the store stands for these entries under this keyring
abbrev pub OpensAs : {D : Type 0} → Contents → Store D → Type 0
OpensAs keyring store = (store.keyring ≡ keyring) × ((items : List Item) × StandsFor store items)

-- what a refusal says of the bytes
abbrev pub Explains : Contents → List ℕ → Why → Type 0
Explains keyring bytes DiskFault = Unit {0}
Explains keyring bytes Unmade = IsUnmade bytes
Explains keyring bytes (Damaged place) =
    IsDamagedAt place bytes ⊎
    ((bodies : List (List ℕ)) × (end : ℕ) × IsJournal bodies end bytes
    × IsNoEntryAt place bodies)
Explains keyring bytes (NotLegal n) = (items : List Item) × IsStoreImage bytes items
    × IsIllegalAt keyring n items
Explains keyring bytes NoMemory = Unit {0}

-- What opening answers where the disk tells these bytes.
abbrev pub IsOpenedStore : {D : Type 0} → (D → Option (List ℕ)) → (D → List ℕ → Type 0) → Contents
    → List ℕ
    → Result (Store D) (StoreFault D) → Type 0
IsOpenedStore reads images keyring bytes (Ok store) =
    (items : List Item) × IsStoreImage bytes items × StandsFor store items
    × Holds reads images store.journal (bodies_of items) None
IsOpenedStore reads images keyring bytes (Err fault) = Explains keyring bytes fault.why

-- a disk fault comes only where the count rose
abbrev pub HasStoreOpenCause : {D : Type 0} → ℕ → (D → ℕ) → StoreFault D → Type 0
HasStoreOpenCause before faults fault = fault.why ≡ DiskFault → Rose before (faults fault.disk)
