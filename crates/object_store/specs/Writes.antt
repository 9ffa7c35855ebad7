-- What writing an entry makes of a store.
use Rattle.std.specs.Prelude.{◌≡◌, ℕ, Bool, List, [], ◌∷◌, ◌++◌, Option, None, Some, Ok, Err}
use Rattle.std.specs.BTreeMap.{get}
use Rattle.rad_base.specs.declared.names.Rid.{Rid}
use Rattle.rad_base.specs.Order.{rid_cmp}
use Rattle.ref_journal.specs.Holds.{CrashLeaves, Holds, LeavesDoubt, MendedMayHave}
use Rattle.ref_journal.specs.declared.faults.AppendFault.TheVariants as appends
use Rattle.repo_entries.specs.declared.entry.Entry.{Entry}
use Rattle.repo_slice.specs.declared.keep_fault.KeepFault.{KeepFault}
use Rattle.repo_slice.specs.declared.keep_fault.KeepFault.TheVariants.{DiskFault, Full, Changed}
use Rattle.repo_slice.specs.declared.keep_fault.KeepFault.TheVariants.{NoMemory}
use Rattle.object_store.specs.Entries.{missed_entry}
use Rattle.object_store.specs.Repositories.{IsAdmitted, IsIdle, IsSame}
use Rattle.object_store.specs.declared.store.Store.{Store}

-- the entry and its body were written, and the entry was admitted
pub record HasWritten {D : Type 0} (reads : D → Option (List ℕ)) (images : D → List ℕ → Type 0)
    (moment : D → ℕ) (since : D → ℕ → List ℕ → Type 0) (old new : Store D) (rid : Rid)
    (entry : Entry) (body : List ℕ) : Type 0 where
  pub admitted : IsAdmitted entry (get rid_cmp old.repositories rid)
      (get rid_cmp new.repositories rid)
  pub entries : new.history.entries.items ≡ old.history.entries.items ++ entry ∷ []
  pub holds : (bodies : List (List ℕ)) (doubt : Option (List ℕ))
      → Holds reads images old.journal bodies doubt
      → Holds reads images new.journal (bodies ++ body ∷ []) None
  pub time : CrashLeaves reads images moment since old.journal new.journal
      (MendedMayHave {T = Unit {0}} (Ok tt) body)

-- what was staged was let go of
pub record HasLetGo {D : Type 0} (old new : Store D) (rid : Rid) : Type 0 where
  pub same : IsSame (get rid_cmp old.repositories rid) (get rid_cmp new.repositories rid)
  pub idle : IsIdle (get rid_cmp new.repositories rid)

-- a fault of the disk left the body in doubt or not, and the history says which
pub record HasMissed {D : Type 0} (reads : D → Option (List ℕ)) (images : D → List ℕ → Type 0)
    (moment : D → ℕ) (since : D → ℕ → List ℕ → Type 0) (old new : Store D) (rid : Rid) (caller : ℕ)
    (entry : Entry) (body : List ℕ) : Type 0 where
  pub let_go : HasLetGo old new rid
  pub in_doubt : Bool
  pub entries : new.history.entries.items ≡ old.history.entries.items
      ++ missed_entry entry (Some rid) caller in_doubt ∷ []
  pub left : (bodies : List (List ℕ)) (doubt : Option (List ℕ))
      → Holds reads images old.journal bodies doubt
      → LeavesDoubt reads images bodies doubt body new.journal (appends.DiskFault in_doubt)
  pub time : CrashLeaves reads images moment since old.journal new.journal
      (MendedMayHave {T = Unit {0}} (Err (appends.DiskFault in_doubt)) body)

-- nothing but what was staged is gone
pub record HasStayed {D : Type 0} (old new : Store D) (rid : Rid) : Type 0 where
  pub let_go : HasLetGo old new rid
  pub journal : new.journal ≡ old.journal
  pub entries : new.history.entries.items ≡ old.history.entries.items

-- why an entry is not written
abbrev pub IsWriteFault : {D : Type 0} → (D → Option (List ℕ)) → (D → List ℕ → Type 0) → (D → ℕ)
    → (D → ℕ → List ℕ → Type 0) → Store D → Store D → Rid → ℕ → Entry → List ℕ → KeepFault
    → Type 0
IsWriteFault reads images moment since old new rid caller entry body DiskFault =
    HasMissed reads images moment since old new rid caller entry body
IsWriteFault reads images moment since old new rid caller entry body Full = HasStayed old new rid
IsWriteFault reads images moment since old new rid caller entry body (Changed change) = ⊥
IsWriteFault reads images moment since old new rid caller entry body NoMemory = ⊥
