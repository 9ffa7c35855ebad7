-- What a slice has, and what it has once what is staged is admitted.
use Rattle.std.specs.Prelude.{◌≡◌, ◌⊎◌, ◌++◌, List, [], Contains, Option, None, Some, IsSome}
use Rattle.rad_base.specs.declared.names.Nid.{Nid}
use Rattle.rad_base.specs.declared.names.Oid.{Oid}
use Rattle.rad_base.specs.declared.names.Rid.{Rid}
use Rattle.rad_base.specs.Order.{commit_of}
use Rattle.commit_graph.specs.InMemory.{objects_in}
use Rattle.commit_graph.specs.Objects.{Object, ObjectMap}
use Rattle.signed_refs.specs.Lines.{Line}
use Rattle.signed_refs.specs.Said.{Says}
use Rattle.repo_entries.specs.Items.{names_of}
use Rattle.repo_entries.specs.declared.entry.Entry.{Entry}
use Rattle.repo_entries.specs.declared.entry.Entry.TheVariants.{Put, Install}
use Rattle.repo_slice.specs.declared.slice.Next.{Next}
use Rattle.repo_slice.specs.declared.slice.Slice.{Slice}
use Rattle.repo_slice.specs.declared.state.State.{State}
use Rattle.repo_slice.specs.Verdicts.{IsInstalled}

-- its objects by name
abbrev pub objects_of : Slice → ObjectMap
objects_of slice = objects_in slice.objects.objects

-- what stands beside them
abbrev pub state_of : Slice → State
state_of slice = slice.state

-- its objects once what is staged is admitted
abbrev pub pending_of : Slice → ObjectMap
pending_of slice = objects_in slice.objects.pending

-- a state once an install is admitted, if one is staged
abbrev pub state_after : State → Option Next → State
state_after state None = state
state_after state (Some next) = record { rid = state.rid; id = Some next.id; remotes = next.remotes }

-- what stands once what is staged is admitted
abbrev pub pending_state : Slice → State
pending_state slice = state_after slice.state slice.next

-- nothing is staged
pub record HasNothingStaged (slice : Slice) : Type 0 where
  pub objects : pending_of slice ≡ objects_of slice
  pub next : slice.next ≡ None

-- a put of these objects into the repository, or an install of it
abbrev pub IsEntryFor : Rid → Entry → List Object → Type 0
IsEntryFor rid (Put of names caller) batch = (of ≡ rid) × (names ≡ names_of batch)
IsEntryFor rid (Install of id remotes caller) batch = (of ≡ rid) × (batch ≡ [])
IsEntryFor rid other batch = ⊥

-- what is staged of an entry
abbrev pub Stages : Slice → Entry → List Object → Slice → Type 0
Stages old (Put rid names caller) batch new =
    (pending_of new ≡ objects_in (old.objects.objects ++ batch)) × (new.next ≡ None)
Stages old (Install rid id remotes caller) batch new =
    (pending_of new ≡ objects_of old) × IsInstalled (state_of old) id remotes (pending_state new)
Stages old other batch new = ⊥

-- each of the names has an object once what is staged is admitted
abbrev pub ArePending : Slice → List Oid → Type 0
ArePending slice names = (oid : Oid) → Contains names oid → pending_of slice oid ≡ None → ⊥

-- a put that is staged; an install that is staged, or that nothing is staged beside
abbrev pub IsReady : Slice → Entry → Type 0
IsReady slice (Put rid names caller) = (rid ≡ slice.state.rid) × ArePending slice names × (slice.next ≡ None)
IsReady slice (Install rid id remotes caller) = (rid ≡ slice.state.rid) × (pending_of slice ≡ objects_of slice)
    × ((slice.next ≡ None) ⊎ IsInstalled (state_of slice) id remotes (pending_state slice))
IsReady slice other = ⊥

-- the entry has its memory
abbrev pub IsCertain : Slice → Entry → Type 0
IsCertain slice (Install rid id remotes caller) = IsSome slice.next
IsCertain slice other = Unit {0}

-- what stands once an entry is admitted
abbrev pub Brings : State → Entry → State → Type 0
Brings old (Install rid id remotes caller) new = IsInstalled old id remotes new
Brings old other new = new ≡ old

-- the refs that the node's commit says; none where the node has no remote
abbrev pub AreRefsOf : ObjectMap → State → Nid → Option (List Line) → Type 0
AreRefsOf objects state node None = commit_of state.remotes node ≡ None
AreRefsOf objects state node (Some refs) = (commit : Oid) × (commit_of state.remotes node ≡ Some commit) × Says objects commit refs
