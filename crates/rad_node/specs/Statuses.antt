-- What each status says of the files, and what was asked before it.
use Rattle.std.specs.Prelude.{◌≡◌, ◌⊎◌, ◌≤◌, ◌<◌, ℕ, List, length, Option, Some, IfSome}
use Rattle.keyring.specs.Contents.{Contents}
use Rattle.keyring.specs.Keys.{BreaksKeyringAt, Keys}
use Rattle.ref_journal.specs.Images.{IsDamagedAt, IsJournal, IsUnmade}
use Rattle.repo_entries.specs.Items.{Item}
use Rattle.legal_history.specs.Histories.{Legal}
use Rattle.object_store.specs.Opened.{IsStoreImage}
use Rattle.object_store.specs.Opens.{IsIllegalAt, IsNoEntryAt}
use Rattle.rad_vectors.specs.Generated.{generated}
use Rattle.rad_vectors.specs.Repositories.{keyring_text}
use Rattle.rad_node.specs.declared.command.Command.{Command}
use Rattle.rad_node.specs.declared.command.Command.TheVariants.{Init, Import, Show, Heads, Audit, Frames, Gen}
use Rattle.rad_node.specs.declared.status.Status.{Status}
use Rattle.rad_node.specs.declared.status.Status.TheVariants.{Ok, Usage, ReadFault, WriteFault, DiskFault, Unmade, Damaged, KeyringBad, InputBad, SomeRefused, Full, NotLegal, AlreadyMade, Changed, NoMemory}
use Rattle.rad_node.specs.declared.status.WhichSource.{WhichSource}
use Rattle.rad_node.specs.declared.status.WhichSource.TheVariants as source
use Rattle.rad_node.specs.Commands.{IsNoCommand, Says}
use Rattle.std.specs.Prelude.{String}

-- the keyring file and the store as they were before the run, where they are told
pub record Files : Type 0 where
  pub keyring : Option (List ℕ)
  pub store : Option (List ℕ)

-- the keyring of the repository that is made by rule with so many commits
abbrev pub generated_keyring : ℕ → List ℕ
generated_keyring commits = keyring_text (generated commits).names (generated commits).signers

-- the files by which a command works: `gen` makes its keyring
abbrev pub files_of : Command → Files → Files
files_of Init files = files
files_of Import files = files
files_of Show files = files
files_of Heads files = files
files_of Audit files = files
files_of Frames files = files
files_of (Gen commits) files = record { keyring = Some (generated_keyring commits); store = files.store }

-- A fault is answered only where its cause is there: a fault of the keyring's source, of the bundle's,
-- of the disk, of the sink. No bytes that were read back have another name.
abbrev pub IsCaused : Status → Type 0 → Type 0 → Type 0 → Type 0 → Type 0
IsCaused Ok keys input disk out = Unit {0}
IsCaused Usage keys input disk out = Unit {0}
IsCaused (ReadFault source.Keys) keys input disk out = keys
IsCaused (ReadFault source.Rules) keys input disk out = ⊥
IsCaused (ReadFault source.Input) keys input disk out = input
IsCaused WriteFault keys input disk out = out
IsCaused DiskFault keys input disk out = disk
IsCaused Unmade keys input disk out = Unit {0}
IsCaused (Damaged place) keys input disk out = Unit {0}
IsCaused (KeyringBad line) keys input disk out = Unit {0}
IsCaused (InputBad place) keys input disk out = Unit {0}
IsCaused SomeRefused keys input disk out = Unit {0}
IsCaused Full keys input disk out = Unit {0}
IsCaused (NotLegal n) keys input disk out = Unit {0}
IsCaused AlreadyMade keys input disk out = Unit {0}
IsCaused (Changed change) keys input disk out = ⊥
IsCaused NoMemory keys input disk out = Unit {0}

-- a run ends with Usage exactly where its words are no command
abbrev pub IsUsage : {A : Type 0} → List (String A) → Status → Type 0
IsUsage words Usage = IsNoCommand words
IsUsage words other = (command : Command) × Says words command

-- this line of a keyring file is the first broken one; or it is 0, and the file is too long
abbrev pub IsBadKeyring : ℕ → List ℕ → Type 0
IsBadKeyring line bytes =
    ((line ≡ 0) × (268435456 < length bytes)) ⊎ ((length bytes ≤ 268435456) × BreaksKeyringAt line bytes)

-- a keyring file that is not too long says this
pub record SaysKeyring (bytes : List ℕ) (keyring : Contents) : Type 0 where
  pub size : length bytes ≤ 268435456
  pub keys : Keys bytes keyring

-- the bytes are no journal from this place on, or a journal whose least body that is no entry's stands there
abbrev pub IsDamagedStore : ℕ → List ℕ → Type 0
IsDamagedStore place bytes =
    IsDamagedAt place bytes
    ⊎ ((bodies : List (List ℕ)) × (end : ℕ) × IsJournal bodies end bytes × IsNoEntryAt place bodies)

-- the bytes are a journal of entries, of which this one is the first that is not legal under the keyring
pub record IsIllegalStore (files : Files) (n : ℕ) (bytes : List ℕ) : Type 0 where
  pub keyring : Contents
  pub says : IfSome files.keyring (λ file. SaysKeyring file keyring)
  pub items : List Item
  pub image : IsStoreImage bytes items
  pub illegal : IsIllegalAt keyring n items

-- the keyring file says this, and the store is a journal of these entries, which are legal
pub record AreGood (files : Files) (keyring : Contents) (stored : List Item) : Type 0 where
  pub keys : IfSome files.keyring (λ file. SaysKeyring file keyring)
  pub store : IfSome files.store (λ bytes. IsStoreImage bytes stored)
  pub legal : Legal keyring stored

-- the command opens a store under a keyring, which takes memory
abbrev pub OpensStore : Command → Type 0
OpensStore Init = ⊥
OpensStore Import = Unit {0}
OpensStore Show = Unit {0}
OpensStore Heads = Unit {0}
OpensStore Audit = Unit {0}
OpensStore Frames = ⊥
OpensStore (Gen commits) = Unit {0}

-- the command reads this source
abbrev pub ReadsSource : Command → WhichSource → Type 0
ReadsSource Init which = ⊥
ReadsSource Import source.Keys = Unit {0}
ReadsSource Import source.Rules = ⊥
ReadsSource Import source.Input = Unit {0}
ReadsSource Show which = which ≡ source.Keys
ReadsSource Heads which = which ≡ source.Keys
ReadsSource Audit which = which ≡ source.Keys
ReadsSource Frames which = which ≡ source.Input
ReadsSource (Gen commits) which = ⊥

-- the command takes a bundle
abbrev pub TakesBundle : Command → Type 0
TakesBundle Init = ⊥
TakesBundle Import = Unit {0}
TakesBundle Show = ⊥
TakesBundle Heads = ⊥
TakesBundle Audit = ⊥
TakesBundle Frames = ⊥
TakesBundle (Gen commits) = Unit {0}

-- the command takes a bundle, or bytes of frames
abbrev pub TakesBytes : Command → Type 0
TakesBytes Frames = Unit {0}
TakesBytes other = TakesBundle other

-- the command opens a store, or reads frames, which takes memory
abbrev pub TakesMemory : Command → Type 0
TakesMemory Frames = Unit {0}
TakesMemory other = OpensStore other

-- the keyring file, where it is told, was read
abbrev pub HasKeyring : Files → Type 0
HasKeyring files = IfSome files.keyring (λ file. (keyring : Contents) × SaysKeyring file keyring)

-- a command may end so, and what is said of the files is so
abbrev pub IsSaid : Command → Files → Status → Type 0
IsSaid command files Ok = Unit {0}
IsSaid command files Usage = ⊥
IsSaid command files (ReadFault which) = ReadsSource command which
IsSaid command files WriteFault = Unit {0}
IsSaid command files DiskFault = OpensStore command → HasKeyring files
IsSaid command files Unmade = OpensStore command × HasKeyring files × IfSome files.store IsUnmade
IsSaid command files (Damaged place) = OpensStore command × HasKeyring files × IfSome files.store (IsDamagedStore place)
IsSaid command files (KeyringBad line) = OpensStore command × IfSome files.keyring (IsBadKeyring line)
IsSaid command files (InputBad place) = TakesBytes command
IsSaid command files SomeRefused = TakesBundle command
IsSaid command files Full = TakesBundle command
IsSaid command files (NotLegal n) = OpensStore command × IfSome files.store (IsIllegalStore files n)
IsSaid command files AlreadyMade = (command ≡ Init) × IfSome files.store (λ bytes. IsUnmade bytes → ⊥)
IsSaid command files (Changed change) = ⊥
IsSaid command files NoMemory = TakesMemory command

-- the run ended at its keyring
abbrev pub IsKeyringEnd : Status → Type 0
IsKeyringEnd (ReadFault source.Keys) = Unit {0}
IsKeyringEnd (KeyringBad line) = Unit {0}
IsKeyringEnd other = ⊥

-- the run ended at its keyring or at its store
abbrev pub IsOpeningEnd : Status → Type 0
IsOpeningEnd Unmade = Unit {0}
IsOpeningEnd (Damaged place) = Unit {0}
IsOpeningEnd (NotLegal n) = Unit {0}
IsOpeningEnd other = IsKeyringEnd other

-- What was not asked yet is the very same: `init` and `gen` read no file, `frames` no keyring and no store, a run that
-- ended at its keyring left the store, and one that ended before it left the bundle, which only `import` reads.
abbrev pub IsOrdered : Command → Status → Type 0 → Type 0 → Type 0 → Type 0
IsOrdered Init status same_disk same_keys same_input = same_keys × same_input
IsOrdered Import status same_disk same_keys same_input =
    (IsKeyringEnd status → same_disk) × (IsOpeningEnd status → same_input)
IsOrdered Show status same_disk same_keys same_input = (IsKeyringEnd status → same_disk) × same_input
IsOrdered Heads status same_disk same_keys same_input = (IsKeyringEnd status → same_disk) × same_input
IsOrdered Audit status same_disk same_keys same_input = (IsKeyringEnd status → same_disk) × same_input
IsOrdered Frames status same_disk same_keys same_input = same_disk × same_keys
IsOrdered (Gen commits) status same_disk same_keys same_input = same_keys × same_input
