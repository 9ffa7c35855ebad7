-- What holds of identity chains by the definitions alone.
use Rattle.std.specs.Prelude.{◌≡◌, List}
use Rattle.rad_base.specs.declared.names.Oid.{Oid}
use Rattle.rad_base.specs.declared.names.Rid.{Rid}
use Rattle.commit_graph.specs.Objects.{Grows, ObjectMap}
use Rattle.keyring.specs.Contents.{Contents}
use Rattle.identity_doc.specs.IdentityChains.{HasIdentity, IsIdentityChain}
use Rattle.identity_doc.specs.IdentityFaults.{IsGet, IsIdFault}
use Rattle.identity_doc.specs.declared.doc.Doc.{Doc}
use Rattle.identity_doc.specs.declared.id_fault.IdFault.{IdFault}

-- a tip that has an identity is refused only where an object could not be had, or memory was
-- refused
abbrev pub IdentityIsRefusedByFaultAlone : Type 0
IdentityIsRefusedByFaultAlone = (objects : ObjectMap) (keyring : Contents) (rid : Rid) (tip : Oid)
    (doc : Doc) (fault : IdFault) → HasIdentity objects keyring rid tip doc
    → IsIdFault objects keyring rid tip fault → IsGet fault

-- a tip is refused for at most one reason, an object that could not be had or memory that was
-- refused apart
abbrev pub OneIdFault : Type 0
OneIdFault = (objects : ObjectMap) (keyring : Contents) (rid : Rid) (tip : Oid) (a b : IdFault)
    → IsIdFault objects keyring rid tip a → IsIdFault objects keyring rid tip b
    → (IsGet a → ⊥) → (IsGet b → ⊥) → a ≡ b

-- an identity chain stays one as objects are added and none is replaced
abbrev pub IdentityChainStays : Type 0
IdentityChainStays = (old new : ObjectMap) (keyring : Contents) (rid : Rid) (tip : Oid)
    (commits : List Oid) → Grows old new → IsIdentityChain old keyring rid tip commits
    → IsIdentityChain new keyring rid tip commits
