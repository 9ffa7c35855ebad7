-- Why an object could not be had, and what a call over objects keeps.
use Rattle.std.specs.Prelude.{◌≡◌, ℕ, ◌≤◌, List, Option, Some, None, Result, Ok, Err}
use Rattle.rad_base.specs.Faults.{Rose}
use Rattle.rad_base.specs.declared.names.Oid.{Oid}
use Rattle.git_object.specs.declared.kind.Kind.{Kind}
use Rattle.git_object.specs.Names.{name}
use Rattle.commit_graph.specs.declared.fault.Changed.{Changed}
use Rattle.commit_graph.specs.declared.fault.GetFault.{GetFault}
use Rattle.commit_graph.specs.declared.fault.GetFault.TheVariants as fault
use Rattle.commit_graph.specs.Objects.{ObjectMap}

-- where the objects stand, as far as they stand at places
abbrev pub Places : Type 0
Places = Oid → Option ℕ

-- what was read back where the object of a name stands has another name, and no map was told
pub record IsChange (content : Option ObjectMap) (places : Places) (change : Changed) : Type 0 where
  pub untold : content ≡ None
  pub stands : places change.name ≡ Some change.place
  pub other : change.found ≡ change.name → ⊥
  pub kind : Kind
  pub bytes : List ℕ
  pub read : name kind bytes ≡ change.found

-- each fault by its cause
abbrev pub IsCause : Option ObjectMap → Places → ℕ → ℕ → GetFault → Type 0
IsCause content places before now fault.DiskFault = Rose before now
IsCause content places before now (fault.Changed change) = (now ≡ before) × IsChange content places change
IsCause content places before now fault.NoMemory = now ≡ before

-- where a call met no fault the count of faults stands still, else the fault has its cause
abbrev pub IsCaused : Option ObjectMap → Places → ℕ → ℕ → Option GetFault → Type 0
IsCaused content places before now None = now ≡ before
IsCaused content places before now (Some why) = IsCause content places before now why

-- the fault of objects that a call met, by the function that finds it in an error
abbrev pub fault_met : {T E : Type 0} → (E → Option GetFault) → Result T E → Option GetFault
fault_met fault_in (Ok value) = None
fault_met fault_in (Err why) = fault_in why

-- A call changes neither the objects nor what is beside them. The count of faults never falls, and
-- stands still but at a fault of the disk; a fault of the objects has its cause.
pub record KeepsObjects {S B T E : Type 0} (content_of : S → Option ObjectMap) (beside_of : S → B)
    (places_of : B → Places) (faults_of : S → ℕ) (fault_in : E → Option GetFault) (old new : S)
    (result : Result T E) : Type 0 where
  pub content : content_of new ≡ content_of old
  pub beside : beside_of new ≡ beside_of old
  pub later : faults_of old ≤ faults_of new
  pub cause : IsCaused (content_of old) (places_of (beside_of old)) (faults_of old) (faults_of new) (fault_met fault_in result)

-- a change that is told is that of the name that was asked for
abbrev pub IsAskedFor : Oid → GetFault → Type 0
IsAskedFor oid why = (change : Changed) → why ≡ fault.Changed change → change.name ≡ oid
