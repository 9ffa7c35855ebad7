-- What is held of a repository of a store.
use Rattle.std.specs.Prelude.{◌≡◌, ◌⊎◌, ℕ, List, Contains, Option, None, Some}
use Rattle.std.specs.BTreeMap.{get}
use Rattle.rad_base.specs.Order.{rid_cmp}
use Rattle.rad_base.specs.declared.names.Nid.{Nid}
use Rattle.rad_base.specs.declared.names.Oid.{Oid}
use Rattle.rad_base.specs.declared.names.Rid.{Rid}
use Rattle.rad_base.specs.declared.offer.Offer.{Offer}
use Rattle.keyring.specs.Contents.{Contents}
use Rattle.repo_entries.specs.Items.{Item}
use Rattle.repo_slice.specs.Good.{IsGood}
use Rattle.repo_slice.specs.Keeps.{Held}
use Rattle.repo_slice.specs.Slices.{objects_of, state_of}
use Rattle.repo_slice.specs.Wanted.{IsWantedList}
use Rattle.repo_slice.specs.declared.scope.Scope.{Scope}
use Rattle.repo_slice.specs.declared.state.State.{State}
use Rattle.repo_slice.specs.declared.wanting.Stage.{Stage}
use Rattle.legal_history.specs.Replays.{Standing, nothing_stands, replay, state_in}
use Rattle.object_store.specs.Repositories.{claimant_at}
use Rattle.object_store.specs.declared.repository.Repository.{Repository}
use Rattle.object_store.specs.declared.store.Store.{Store}

-- what stands of a repository, its objects told
abbrev pub held_standing : Rid → Standing → Held
held_standing rid s = record { state = state_in rid s; objects = Some s.objects }

-- what the entries make of a repository
abbrev pub held_in : Rid → List Item → Held
held_in rid items = held_standing rid (replay rid items)

-- the identity or a remote's commit has this name
abbrev pub IsNamedOf : State → Oid → Type 0
IsNamedOf state oid = (state.id ≡ Some oid) ⊎ ((node : Nid) × Contains state.remotes (node, oid))

-- the same of a repository; where there is none, no name
abbrev pub IsNamedAt : Option Repository → Oid → Type 0
IsNamedAt None oid = ⊥
IsNamedAt (Some r) oid = IsNamedOf (state_of r.slice) oid

-- what is asked for, where the repository is good; where there is none, on an empty one
abbrev pub IsWantedAt : Option Repository → Rid → Contents → Offer → Scope → Stage → List Nid
    → Type 0
IsWantedAt None rid keyring offer scope stage nodes =
    IsWantedList nothing_stands.objects keyring (state_in rid nothing_stands) offer scope stage nodes
IsWantedAt (Some r) rid keyring offer scope stage nodes = IsGood (objects_of r.slice) keyring
    (state_of r.slice)
    → IsWantedList (objects_of r.slice) keyring (state_of r.slice) offer scope stage nodes

-- what a store has of a repository; nothing where it is not there
abbrev pub held_of : Rid → Option Repository → Held
held_of rid None = held_standing rid nothing_stands
held_of rid (Some r) = record { state = state_of r.slice; objects = Some (objects_of r.slice) }

abbrev pub held_at : {D : Type 0} → Store D → Rid → Held
held_at store rid = held_of rid (get rid_cmp store.repositories rid)

-- who claimed a repository of a store in this run, or 0
abbrev pub claimant_of : {D : Type 0} → Store D → Rid → ℕ
claimant_of store rid = claimant_at (get rid_cmp store.repositories rid)

-- nobody claimed a repository of the store
abbrev pub IsUnclaimed : {D : Type 0} → Store D → Type 0
IsUnclaimed store = (rid : Rid) → claimant_of store rid ≡ 0
