-- The repositories of a store.
use Rattle.std.specs.Prelude.{◌≡◌, ℕ, ◌≤◌, ◌++◌, List, Option, None, Some}
use Rattle.rad_base.specs.declared.names.Rid.{Rid}
use Rattle.commit_graph.specs.InMemory.{objects_in}
use Rattle.commit_graph.specs.Objects.{Object}
use Rattle.repo_entries.specs.Items.{Item}
use Rattle.repo_entries.specs.declared.entry.Entry.{Entry}
use Rattle.repo_slice.specs.Slices.{Brings, HasNothingStaged, IsCertain, IsReady, objects_of}
use Rattle.repo_slice.specs.Slices.{pending_of, state_of}
use Rattle.legal_history.specs.Replays.{claimant, nothing_stands, replay, replayed_state, state_in}
use Rattle.object_store.specs.declared.faults.ClaimFault.{ClaimFault}
use Rattle.object_store.specs.declared.faults.ClaimFault.TheVariants.{Claimed, NoMemory}
use Rattle.object_store.specs.declared.repository.Repository.{Repository}

-- a repository is what the entries make of it, and nothing is staged
pub record StandsAs (r : Repository) (rid : Rid) (items : List Item) : Type 0 where
  pub objects : objects_of r.slice ≡ (replay rid items).objects
  pub state : state_of r.slice ≡ replayed_state rid items
  pub idle : HasNothingStaged r.slice
  pub claimed : r.claimant ≡ claimant rid items

-- so it is, where it is known; where it is not, the entries make nothing of it
abbrev pub StandsKnown : Option Repository → Rid → List Item → Type 0
StandsKnown None rid items = (replay rid items ≡ nothing_stands) × (claimant rid items ≡ 0)
StandsKnown (Some r) rid items = StandsAs r rid items

-- the same stands, and the same caller claimed it
abbrev pub IsSame : Option Repository → Option Repository → Type 0
IsSame None None = Unit {0}
IsSame (Some old) (Some new) =
    (objects_of new.slice ≡ objects_of old.slice) × (state_of new.slice ≡ state_of old.slice)
    × (new.claimant ≡ old.claimant)
IsSame None (Some new) = ⊥
IsSame (Some old) None = ⊥

-- nothing is staged
abbrev pub IsIdle : Option Repository → Type 0
IsIdle None = Unit {0}
IsIdle (Some r) = HasNothingStaged r.slice

-- the name that the repository has for itself
abbrev pub own_rid : Option Repository → Rid → Rid
own_rid None rid = rid
own_rid (Some r) rid = (state_of r.slice).rid

-- a put of these objects is staged
abbrev pub HasStagedPut : List Object → Option Repository → Option Repository → Type 0
HasStagedPut batch None new = Unit {0}
HasStagedPut batch (Some old) None = ⊥
HasStagedPut batch (Some old) (Some new) =
    pending_of new.slice ≡ objects_in (old.slice.objects.objects ++ batch)

-- the entry can be admitted without memory
abbrev pub IsPrepared : Entry → Option Repository → Type 0
IsPrepared entry None = Unit {0}
IsPrepared entry (Some r) = IsReady r.slice entry × IsCertain r.slice entry

-- the entry was admitted
abbrev pub IsAdmitted : Entry → Option Repository → Option Repository → Type 0
IsAdmitted entry None None = Unit {0}
IsAdmitted entry (Some old) (Some new) =
    (objects_of new.slice ≡ pending_of old.slice) × Brings (state_of old.slice) entry
    (state_of new.slice)
    × HasNothingStaged new.slice × (new.claimant ≡ old.claimant)
IsAdmitted entry None (Some new) = ⊥
IsAdmitted entry (Some old) None = ⊥

-- who claimed it in this run, or 0
abbrev pub claimant_at : Option Repository → ℕ
claimant_at None = 0
claimant_at (Some r) = r.claimant

-- an empty slice of this repository
pub record IsEmpty (rid : Rid) (r : Repository) : Type 0 where
  pub objects : objects_of r.slice ≡ nothing_stands.objects
  pub state : state_of r.slice ≡ state_in rid nothing_stands
  pub idle : HasNothingStaged r.slice

-- it was claimed by this caller, and nothing else changed
abbrev pub IsClaimed : Rid → ℕ → Option Repository → Option Repository → Type 0
IsClaimed rid caller None (Some new) = IsEmpty rid new × (new.claimant ≡ caller)
IsClaimed rid caller (Some old) (Some new) = (new.slice ≡ old.slice) × (new.claimant ≡ caller)
IsClaimed rid caller old None = ⊥

-- a claim is refused as a caller claimed it
abbrev pub IsCauseOf : ℕ → ClaimFault → Type 0
IsCauseOf claimant (Claimed caller) = (claimant ≡ caller) × (1 ≤ caller)
IsCauseOf claimant NoMemory = Unit {0}
