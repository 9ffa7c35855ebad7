-- What holds of signed refs by their definitions alone.
use Rattle.std.specs.Prelude.{◌≡◌, ℕ, List, Result, Ok, Err}
use Rattle.rad_base.specs.declared.names.Nid.{Nid}
use Rattle.rad_base.specs.declared.names.Oid.{Oid}
use Rattle.rad_base.specs.declared.names.Rid.{Rid}
use Rattle.commit_graph.specs.Objects.{Grows, ObjectMap}
use Rattle.keyring.specs.Contents.{Contents}
use Rattle.signed_refs.specs.Lines.{Line, SpellsRefs}
use Rattle.signed_refs.specs.Readings.{ReadsRefs}
use Rattle.signed_refs.specs.Refusals.{IsFault, Refuses}
use Rattle.signed_refs.specs.Signed.{Signed}
use Rattle.signed_refs.specs.declared.fault.RefsFault.{RefsFault}
use Rattle.signed_refs.specs.declared.fault.RefsFault.TheVariants.{NoMemory}
use Rattle.signed_refs.specs.declared.fault.SigFault.{SigFault}

-- lines are read back from the bytes that spell them, want of memory apart
abbrev pub RefsAreReadBack : Type 0
RefsAreReadBack = (lines : List Line) (bytes : List ℕ) (answer : Result (List Line) RefsFault)
    → SpellsRefs lines bytes → ReadsRefs bytes answer → (answer ≡ Err NoMemory → ⊥)
    → answer ≡ Ok lines

-- a commit says at most one list of refs as a node's
abbrev pub OneSigned : Type 0
OneSigned = (objects : ObjectMap) (keyring : Contents) (rid : Rid) (node : Nid)
    (commit : Oid) (a b : List Line) → Signed objects keyring rid node commit a
    → Signed objects keyring rid node commit b → a ≡ b

-- a commit that says refs as a node's is refused only where an object could not be had, or memory
-- was refused
abbrev pub SignedIsRefusedByFaultAlone : Type 0
SignedIsRefusedByFaultAlone = (objects : ObjectMap) (keyring : Contents) (rid : Rid) (node : Nid)
    (commit : Oid) (refs : List Line) (fault : SigFault)
    → Signed objects keyring rid node commit refs
    → Refuses objects keyring rid node commit fault → IsFault fault

-- a commit is refused for at most one reason, an object that could not be had or memory that was
-- refused apart
abbrev pub OneRefusal : Type 0
OneRefusal = (objects : ObjectMap) (keyring : Contents) (rid : Rid) (node : Nid) (commit : Oid)
    (a b : SigFault) → Refuses objects keyring rid node commit a
    → Refuses objects keyring rid node commit b → (IsFault a → ⊥) → (IsFault b → ⊥) → a ≡ b

-- what a commit says as a node's it goes on saying as objects are added and none is replaced
abbrev pub SignedStays : Type 0
SignedStays = (old new : ObjectMap) (keyring : Contents) (rid : Rid) (node : Nid)
    (commit : Oid) (refs : List Line) → Grows old new
    → Signed old keyring rid node commit refs → Signed new keyring rid node commit refs
