-- What writing an announcement makes of a store, and what is told of those that were heard.
use Rattle.std.specs.Prelude.{◌≡◌, ℕ, Bool, List, [], ◌∷◌, ◌++◌, Option, None, Ok, Err}
use Rattle.announcements.specs.Tables.{AreSince, IsTable, Keeping}
use Rattle.ref_journal.specs.Holds.{CrashLeaves, Holds, LeavesDoubt, MendedMayHave}
use Rattle.ref_journal.specs.declared.faults.AppendFault.TheVariants as appends
use Rattle.repo_entries.specs.Items.{Item}
use Rattle.repo_entries.specs.declared.entry.Entry.{Entry}
use Rattle.repo_slice.specs.declared.keep_fault.KeepFault.{KeepFault}
use Rattle.repo_slice.specs.declared.keep_fault.KeepFault.TheVariants.{DiskFault, Full, Changed}
use Rattle.repo_slice.specs.declared.keep_fault.KeepFault.TheVariants.{NoMemory}
use Rattle.legal_history.specs.Replays.{messages_in}
use Rattle.object_store.specs.Entries.{missed_entry}
use Rattle.object_store.specs.declared.store.Store.{Store}

-- the messages that are wanted of the table of what the entries heard
pub record Tells (items : List Item) (wanted : List ℕ) (from to : ℕ) (messages : List (List ℕ))
    : Type 0 where
  pub table : Keeping
  pub is : IsTable (messages_in items) table
  pub told : AreSince table wanted from to messages

-- the entry and its body were written
pub record HasHeard {D : Type 0} (reads : D → Option (List ℕ)) (images : D → List ℕ → Type 0)
    (moment : D → ℕ) (since : D → ℕ → List ℕ → Type 0) (old new : Store D) (entry : Entry)
    (body : List ℕ) : Type 0 where
  pub entries : new.history.entries.items ≡ old.history.entries.items ++ entry ∷ []
  pub holds : (bodies : List (List ℕ)) (doubt : Option (List ℕ))
      → Holds reads images old.journal bodies doubt
      → Holds reads images new.journal (bodies ++ body ∷ []) None
  pub time : CrashLeaves reads images moment since old.journal new.journal
      (MendedMayHave {T = Unit {0}} (Ok tt) body)

-- a fault of the disk left the body in doubt or not, and the history says which
pub record HasMissedHeard {D : Type 0} (reads : D → Option (List ℕ)) (images : D → List ℕ → Type 0)
    (moment : D → ℕ) (since : D → ℕ → List ℕ → Type 0) (old new : Store D) (caller : ℕ)
    (entry : Entry) (body : List ℕ) : Type 0 where
  pub in_doubt : Bool
  pub entries : new.history.entries.items ≡ old.history.entries.items
      ++ missed_entry entry None caller in_doubt ∷ []
  pub left : (bodies : List (List ℕ)) (doubt : Option (List ℕ))
      → Holds reads images old.journal bodies doubt
      → LeavesDoubt reads images bodies doubt body new.journal (appends.DiskFault in_doubt)
  pub time : CrashLeaves reads images moment since old.journal new.journal
      (MendedMayHave {T = Unit {0}} (Err (appends.DiskFault in_doubt)) body)

-- why an announcement is not written
abbrev pub IsHeardFault : {D : Type 0} → (D → Option (List ℕ)) → (D → List ℕ → Type 0) → (D → ℕ)
    → (D → ℕ → List ℕ → Type 0) → Store D → Store D → ℕ → Entry → List ℕ → KeepFault → Type 0
IsHeardFault reads images moment since old new caller entry body DiskFault =
    HasMissedHeard reads images moment since old new caller entry body
IsHeardFault reads images moment since old new caller entry body Full =
    (new.journal ≡ old.journal) × (new.history.entries.items ≡ old.history.entries.items)
IsHeardFault reads images moment since old new caller entry body (Changed change) = ⊥
IsHeardFault reads images moment since old new caller entry body NoMemory = ⊥
