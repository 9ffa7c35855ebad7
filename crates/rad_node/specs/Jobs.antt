-- The job of a bundle over an open store.
use Rattle.std.specs.Prelude.{◌≡◌, ℕ, List, [], ◌++◌, Option, IfSome}
use Rattle.rad_base.specs.declared.names.Rid.{Rid}
use Rattle.repo_entries.specs.Items.{Item}
use Rattle.repo_slice.specs.Keeps.{Constants, IsStopped}
use Rattle.repo_slice.specs.declared.keep_fault.KeepFault.TheVariants as fault
use Rattle.object_store.specs.declared.store.Store.{Store}
use Rattle.store_keep.specs.Made.{IsMade}
use Rattle.fetch_stages.specs.Imports.{Came, IsBundleJob, IsWhole}
use Rattle.fetch_stages.specs.declared.job_end.ImportEnd.{ImportEnd}
use Rattle.fetch_stages.specs.declared.job_end.ImportEnd.TheVariants as import
use Rattle.fetch_stages.specs.declared.job_end.JobEnd.TheVariants as job
use Rattle.rad_node.specs.Imports.{IsBadInput, MayName, TellsEnd, held_behind, importing}
use Rattle.rad_node.specs.Statuses.{AreGood, Files}

-- a fault is answered only where its cause is there; no bytes that were read back have another name
abbrev pub IsEndCaused : Type 0 → Type 0 → ImportEnd → Type 0
IsEndCaused input disk (import.Ended rid (job.Done judged head)) = Unit {0}
IsEndCaused input disk (import.Ended rid (job.Refused why)) = Unit {0}
IsEndCaused input disk (import.Ended rid job.TooLong) = Unit {0}
IsEndCaused input disk (import.Ended rid job.DiskFault) = disk
IsEndCaused input disk (import.Ended rid job.Full) = Unit {0}
IsEndCaused input disk (import.Ended rid (job.Changed change)) = ⊥
IsEndCaused input disk (import.Ended rid job.NoMemory) = Unit {0}
IsEndCaused input disk import.ReadFault = input
IsEndCaused input disk (import.InputBad place) = Unit {0}
IsEndCaused input disk import.NoMemory = Unit {0}

-- what was made of the job's entries, by the end
abbrev pub HasMade : Constants → Type 0 → Came → Rid → ℕ → List Item → List Item → ImportEnd → Type 0
HasMade constants at_end came rid end entries history (import.Ended of (job.Done judged head)) =
    (of ≡ rid) × TellsEnd constants came rid (job.Done judged head) × at_end × (history ≡ entries)
HasMade constants at_end came rid end entries history (import.Ended of (job.Refused why)) =
    (of ≡ rid) × TellsEnd constants came rid (job.Refused why) × at_end × (history ≡ entries)
HasMade constants at_end came rid end entries history (import.Ended of job.TooLong) =
    (of ≡ rid) × TellsEnd constants came rid job.TooLong × (history ≡ entries)
HasMade constants at_end came rid end entries history (import.Ended of job.DiskFault) =
    IsStopped rid 1 end entries fault.DiskFault history
HasMade constants at_end came rid end entries history (import.Ended of job.Full) = IsStopped rid 1 end entries fault.Full history
HasMade constants at_end came rid end entries history (import.Ended of (job.Changed change)) =
    IsStopped rid 1 end entries (fault.Changed change) history
HasMade constants at_end came rid end entries history (import.Ended of job.NoMemory) =
    IsStopped rid 1 end entries fault.NoMemory history
HasMade constants at_end came rid end entries history import.ReadFault = history ≡ entries
HasMade constants at_end came rid end entries history (import.InputBad place) = IsBadInput at_end came place × (history ≡ entries)
HasMade constants at_end came rid end entries history import.NoMemory = IsStopped rid 1 end entries fault.NoMemory history

-- the job of a bundle ran over the entries of a store that was opened on this disk, and the store has what it made
-- behind them
pub record HasRun {D : Type 0} (reads : D → Option (List ℕ)) (images : D → List ℕ → Type 0) (moment : D → ℕ)
    (since : D → ℕ → List ℕ → Type 0) (first : D) (files : Files)
    (consumed : List ℕ → Type 0) (at_end : Type 0) (store : Store D) (result : ImportEnd) : Type 0 where
  pub stored : List Item
  pub good : AreGood files store.keyring stored
  pub bytes : List ℕ
  pub unread : List ℕ
  pub took : consumed (bytes ++ unread)
  pub whole : IsWhole result → unread ≡ []
  pub entries : List Item
  pub came : Came
  pub job : IsBundleJob (importing store.keyring) (held_behind stored) bytes entries came
  pub rid : Rid
  pub named : MayName bytes rid
  pub history : List Item
  pub made : HasMade (importing store.keyring) at_end came rid store.journal.end entries history result
  pub store_has : IfSome files.store
      (λ _. IsMade reads images moment since store (record { disk = first; items = stored }) (stored ++ history))
