-- What is seen of objects in memory that come to fail.
use Rattle.std.specs.Prelude.{◌≡◌, ℕ, ◌+◌, ◌-◌, ◌^◌, ◌<◌, ◌≤◌, ◌⊎◌, min, [], Option, Some, None, Result}
use Rattle.std.specs.Option.{option_or}
use Rattle.rad_base.specs.declared.names.Oid.{Oid}
use Rattle.git_object.specs.Names.{name}
use Rattle.git_object.specs.declared.kind.Kind.TheVariants.{Blob}
use Rattle.commit_graph.specs.declared.failing.FailingObjects.{FailingObjects}
use Rattle.commit_graph.specs.declared.failing.Failure.{Failure}
use Rattle.commit_graph.specs.declared.failing.Failure.TheVariants as failures
use Rattle.commit_graph.specs.declared.fault.GetFault.{GetFault}
use Rattle.commit_graph.specs.declared.fault.GetFault.TheVariants as fault
use Rattle.commit_graph.specs.Faults.{IsCaused, KeepsObjects, Places}
use Rattle.commit_graph.specs.InMemory.{objects_in}
use Rattle.commit_graph.specs.Objects.{ObjectMap}

-- the objects in memory, by name
abbrev pub map_of : FailingObjects → ObjectMap
map_of store = objects_in store.objects.now.objects

-- how many look-ups are answered
abbrev pub answers_of : FailingObjects → ℕ
answers_of store = store.answers

-- how each later one fails
abbrev pub failure_of : FailingObjects → Failure
failure_of store = store.failure

-- how many look-ups there were
abbrev pub looks_of : FailingObjects → ℕ
looks_of store = store.looks

-- how often the disk was at fault
abbrev pub faults_of : FailingObjects → ℕ
faults_of store = store.faults

-- the fault of the last look-up that failed
abbrev pub fault_of : FailingObjects → Option GetFault
fault_of store = store.fault

-- all of them stand at one place
abbrev pub one_place : Places
one_place oid = Some 0

-- the fault of a look-up of a name: what is found in the place of its object is the empty blob
abbrev pub IsFaultOf : Failure → Oid → GetFault → Type 0
IsFaultOf failures.Disk oid why = why ≡ fault.DiskFault
IsFaultOf failures.Change oid why =
    ((name Blob [] ≡ oid) × (why ≡ fault.DiskFault))
    ⊎ ((name Blob [] ≡ oid → ⊥) × (why ≡ fault.Changed (record { place = 0; name = oid; found = name Blob [] })))

-- a look-up fails exactly where as many were answered as are to be
abbrev pub FailsAs : FailingObjects → Oid → Option GetFault → Type 0
FailsAs store oid None = looks_of store < answers_of store
FailsAs store oid (Some why) = (answers_of store ≤ looks_of store) × IsFaultOf (failure_of store) oid why

-- one look-up more, with the fault with which it fails
pub record IsCounted (old : FailingObjects) (oid : Oid) (met : Option GetFault) (new : FailingObjects) : Type 0 where
  pub fails : FailsAs old oid met
  pub objects : new.objects ≡ old.objects
  pub answers : answers_of new ≡ answers_of old
  pub failure : failure_of new ≡ failure_of old
  pub looks : looks_of new ≡ min (looks_of old + 1) (2 ^ 64 - 1)
  pub last : fault_of new ≡ option_or met (fault_of old)
  pub later : faults_of old ≤ faults_of new
  pub cause : IsCaused None one_place (faults_of old) (faults_of new) met

-- what a look-up with this answer keeps: no object is told, and nothing else is kept
abbrev pub KeepsStore : {T : Type 0} → FailingObjects → FailingObjects → Result T GetFault → Type 0
KeepsStore old new result =
    KeepsObjects (λ (_ : FailingObjects). None) (λ (_ : FailingObjects). tt {0}) (λ (_ : Unit {0}). one_place) faults_of Some old new result
    × (looks_of new ≤ looks_of old + 1)
