-- Why a commit's refs are refused: the first of the demands that fails.
use Rattle.std.specs.Prelude.{◌≡◌, List, [], ◌∷◌, Option, None, Some}
use Rattle.rad_base.specs.declared.names.Nid.{Nid}
use Rattle.rad_base.specs.declared.names.Oid.{Oid}
use Rattle.rad_base.specs.declared.names.Rid.{Rid}
use Rattle.commit_graph.specs.Closures.{IsClosedCommit, IsClosure}
use Rattle.commit_graph.specs.Objects.{ObjectMap}
use Rattle.commit_graph.specs.Pairs.{as_commit}
use Rattle.commit_graph.specs.declared.fault.GetFault.{GetFault}
use Rattle.commit_graph.specs.declared.answer.Closure.TheVariants as closures
use Rattle.keyring.specs.Contents.{Contents}
use Rattle.signed_refs.specs.Lines.{Line}
use Rattle.signed_refs.specs.Signed.{HasAccepted, HasSigrefs, Signed, Sigrefs}
use Rattle.signed_refs.specs.declared.fault.SigFault.{SigFault}
use Rattle.signed_refs.specs.declared.fault.SigFault.TheVariants.{BadObject, BadSigrefs, Get, Grafted, Missing, NotAccepted}

-- all is there, and the blobs are not those of signed refs
pub record IsBadSigrefs (objects : ObjectMap) (commit : Oid) : Type 0 where
  pub closed : IsClosedCommit objects commit
  pub none : (found : Sigrefs) → HasSigrefs objects commit found → ⊥

-- there are signed refs, and the keyring does not accept them as the node's
pub record IsNotAccepted (objects : ObjectMap) (keyring : Contents) (node : Nid) (commit : Oid) : Type 0 where
  pub closed : IsClosedCommit objects commit
  pub found : Sigrefs
  pub has : HasSigrefs objects commit found
  pub none : (other : Sigrefs) → HasAccepted objects keyring node commit other → ⊥

-- they are accepted, and the line of the identity root names none of the repository
pub record IsGrafted (objects : ObjectMap) (keyring : Contents) (rid : Rid) (node : Nid) (commit : Oid) : Type 0 where
  pub closed : IsClosedCommit objects commit
  pub found : Sigrefs
  pub are : HasAccepted objects keyring node commit found
  pub none : (refs : List Line) → Signed objects keyring rid node commit refs → ⊥

-- each refusal by what fails first
abbrev pub Refuses : ObjectMap → Contents → Rid → Nid → Oid → SigFault → Type 0
Refuses objects keyring rid node commit (Missing oid) = IsClosure objects (as_commit commit ∷ []) (closures.Missing oid)
Refuses objects keyring rid node commit (BadObject oid) = IsClosure objects (as_commit commit ∷ []) (closures.BadObject oid)
Refuses objects keyring rid node commit BadSigrefs = IsBadSigrefs objects commit
Refuses objects keyring rid node commit NotAccepted = IsNotAccepted objects keyring node commit
Refuses objects keyring rid node commit Grafted = IsGrafted objects keyring rid node commit
Refuses objects keyring rid node commit (Get why) = Unit {0}

-- an object could not be had, or memory was refused
abbrev pub IsFault : SigFault → Type 0
IsFault fault = (why : GetFault) × (fault ≡ Get why)

-- the fault of objects that a refusal is
abbrev pub sig_fault_in : SigFault → Option GetFault
sig_fault_in (Missing oid) = None
sig_fault_in (BadObject oid) = None
sig_fault_in BadSigrefs = None
sig_fault_in NotAccepted = None
sig_fault_in Grafted = None
sig_fault_in (Get why) = Some why
