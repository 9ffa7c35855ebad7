-- Installs in the repositories of a store.
use Rattle.std.specs.Prelude.{◌≡◌, ◌≢◌, ℕ, ◌≤◌, List, length, Option, None, Some, IsSome, Result}
use Rattle.std.specs.Prelude.{Ok, Err}
use Rattle.rad_base.specs.declared.names.Nid.{Nid}
use Rattle.rad_base.specs.declared.names.Oid.{Oid}
use Rattle.rad_base.specs.declared.names.Rid.{Rid}
use Rattle.rad_base.specs.declared.offer.Offer.{Offer}
use Rattle.keyring.specs.Contents.{Contents}
use Rattle.repo_entries.specs.declared.entry.Entry.{Entry}
use Rattle.repo_entries.specs.declared.entry.Entry.TheVariants as entries
use Rattle.repo_entries.specs.declared.whole.Whole.{Whole}
use Rattle.repo_slice.specs.Good.{IsGood}
use Rattle.repo_slice.specs.Slices.{objects_of, pending_of, pending_state, state_of}
use Rattle.repo_slice.specs.Verdicts.{IsInstalled, IsVerdict}
use Rattle.repo_slice.specs.declared.scope.Scope.{Scope}
use Rattle.repo_slice.specs.declared.slice.Slice.{Slice}
use Rattle.repo_slice.specs.declared.verdict.IdOutcome.TheVariants.{Stale}
use Rattle.repo_slice.specs.declared.verdict.Judged.{Judged}
use Rattle.object_store.specs.Repositories.{IsEmpty}
use Rattle.object_store.specs.declared.repository.Repository.{Repository}

-- it was there and stayed, or an empty one that nobody claimed stands there
abbrev pub IsThere : Rid → Option Repository → Option Repository → Type 0
IsThere rid (Some old) new = new ≡ Some old
IsThere rid None (Some new) = IsEmpty rid new × (new.claimant ≡ 0)
IsThere rid None None = ⊥

-- there are at most 1,024 remotes
abbrev pub HasFew : Option Repository → Type 0
HasFew None = Unit {0}
HasFew (Some r) = length (state_of r.slice).remotes ≤ 1024

-- an install of these is staged
abbrev pub HasStagedInstall : Oid → List (Nid × Oid) → Option Repository → Option Repository
    → Type 0
HasStagedInstall id remotes None new = Unit {0}
HasStagedInstall id remotes (Some old) None = ⊥
HasStagedInstall id remotes (Some old) (Some new) =
    (pending_of new.slice ≡ objects_of old.slice) × IsInstalled (state_of old.slice) id remotes
    (pending_state new.slice)

-- what the entry installs is staged in a slice, where it is an install of this one
abbrev pub StagesInstall : Slice → Slice → Entry → Type 0
StagesInstall old new entry = (id : Oid) (remotes : List (Nid × Oid)) (caller : ℕ)
    → entry ≡ entries.Install (state_of old).rid id remotes caller
    → (pending_of new ≡ objects_of old) × IsInstalled (state_of old) id remotes (pending_state new)

-- the verdict on an offer, where the repository is good
abbrev pub IsVerdictAt : Option Repository → Contents → Offer → Scope → Result Judged Whole → Type 0
IsVerdictAt None keyring offer scope verdict = Unit {0}
IsVerdictAt (Some r) keyring offer scope verdict = IsGood (objects_of r.slice) keyring
    (state_of r.slice)
    → IsVerdict (objects_of r.slice) keyring (state_of r.slice) offer scope verdict

-- the verdict leaves no other identity, and advances each of these remotes
abbrev pub IsWholeAdvance : List (Nid × Oid) → Result Judged Whole → Type 0
IsWholeAdvance remotes (Ok judged) = (judged.id_outcome ≢ Stale) × (judged.advanced ≡ remotes)
IsWholeAdvance remotes (Err whole) = ⊥

-- the repository has an identity
abbrev pub HasIdentityAt : Option Repository → Type 0
HasIdentityAt None = ⊥
HasIdentityAt (Some r) = IsSome (state_of r.slice).id
