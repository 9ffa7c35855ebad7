-- What the readers of identity commits answer where they refuse.
use Rattle.std.specs.Prelude.{◌≡◌}
use Rattle.rad_base.specs.declared.names.Oid.{Oid}
use Rattle.rad_base.specs.declared.names.Rid.{Rid}
use Rattle.keyring.specs.Contents.{Contents}
use Rattle.commit_graph.specs.declared.chains.ChainFault.{ChainFault}
use Rattle.commit_graph.specs.declared.chains.ChainFault.TheVariants as chain
use Rattle.commit_graph.specs.Objects.{ObjectMap}
use Rattle.identity_doc.specs.declared.doc.Doc.{Doc}
use Rattle.identity_doc.specs.declared.id_fault.IdFault.{IdFault}
use Rattle.identity_doc.specs.declared.id_fault.IdFault.TheVariants.{TwoParents, NoRoot, Get}
use Rattle.identity_doc.specs.IdentityFaults.{FailsChange, FailsFirst, HasSomeDocument, IsIdFault}

-- a fault of the chain, as one of the identity
abbrev pub of_chain : ChainFault → IdFault
of_chain (chain.TwoParents oid) = TwoParents oid
of_chain (chain.NoRoot oid) = NoRoot oid
of_chain (chain.Get why) = Get why

-- the fault refuses the tip, whatever the keyring and the repository
abbrev pub RefusesTip : ObjectMap → Oid → IdFault → Type 0
RefusesTip objects tip fault = (keyring : Contents) (rid : Rid) → IsIdFault objects keyring rid tip fault

-- the fault is one of the document that the commit has in the blob, be the commit a root or a change
pub record FailsDocument (objects : ObjectMap) (keyring : Contents) (commit blob : Oid) (fault : IdFault) : Type 0 where
  pub first : (rid : Rid) → blob ≡ rid.0 → FailsFirst objects keyring rid commit fault
  pub change : (parent : Oid) (before : Doc) → FailsChange objects keyring parent before commit fault

-- the fault is one of the commit's signatures, whatever they are to sign
abbrev pub FailsSignatures : ObjectMap → Oid → IdFault → Type 0
FailsSignatures objects commit fault = (keyring : Contents) (parent : Oid) (before : Doc)
    → HasSomeDocument objects keyring commit → FailsChange objects keyring parent before commit fault
