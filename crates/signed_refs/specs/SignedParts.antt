-- What the parts of `signed` answer.
use Rattle.std.specs.Prelude.{◌≡◌, ℕ, List, codes, IsTrue, Option, None, Some}
use Rattle.rad_base.specs.declared.names.Nid.{Nid}
use Rattle.rad_base.specs.declared.names.Oid.{Oid}
use Rattle.rad_base.specs.declared.names.Rid.{Rid}
use Rattle.rad_base.specs.declared.names.Sig.{Sig}
use Rattle.rad_base.specs.Sizes.{IsSig}
use Rattle.commit_graph.specs.Objects.{ObjectMap}
use Rattle.commit_graph.specs.declared.fault.GetFault.{GetFault}
use Rattle.commit_graph.specs.declared.fault.GetFault.TheVariants as gets
use Rattle.keyring.specs.Contents.{Contents, accepts}
use Rattle.signed_refs.specs.Lines.{Line, SpellsRefs}
use Rattle.signed_refs.specs.Refusals.{Refuses}
use Rattle.signed_refs.specs.Signed.{HasAccepted, HasBlob, HasSigrefs, Sigrefs}
use Rattle.signed_refs.specs.declared.accepting.SigrefsFault.{SigrefsFault}
use Rattle.signed_refs.specs.declared.accepting.SigrefsFault.TheVariants as sigrefs
use Rattle.signed_refs.specs.declared.fault.SigFault.{SigFault}
use Rattle.signed_refs.specs.declared.fault.SigFault.TheVariants.{BadSigrefs, Get, NotAccepted}

-- why a commit's refs are not accepted, as a refusal of the commit
abbrev pub sig_fault : SigrefsFault → SigFault
sig_fault sigrefs.Bad = BadSigrefs
sig_fault sigrefs.NotAccepted = NotAccepted
sig_fault (sigrefs.Get why) = Get why

-- the fault refuses the commit, whatever the keyring, the repository and the node
abbrev pub RefusesAlways : ObjectMap → Oid → SigFault → Type 0
RefusesAlways objects commit fault = (keyring : Contents) (rid : Rid) (node : Nid) → Refuses objects keyring rid node commit fault

-- the signature that is a blob of the commit
abbrev pub HasSignature : ObjectMap → Oid → Sig → Type 0
HasSignature objects commit sig = IsSig sig × HasBlob objects commit (codes "signature") sig.0

-- the signature, and none exactly where there is none
abbrev pub FindsSignature : ObjectMap → Oid → Option Sig → Type 0
FindsSignature objects commit None = (sig : Sig) → HasSignature objects commit sig → ⊥
FindsSignature objects commit (Some sig) = HasSignature objects commit sig

-- the bytes spell refs
abbrev pub SpellSomeRefs : List ℕ → Type 0
SpellSomeRefs bytes = (refs : List Line) × SpellsRefs refs bytes

-- why bytes are refused: they spell no refs, or the keyring does not accept the signature over them
abbrev pub RefusesText : Contents → Nid → Sig → List ℕ → SigrefsFault → Type 0
RefusesText keyring node sig bytes sigrefs.Bad = SpellSomeRefs bytes → ⊥
RefusesText keyring node sig bytes sigrefs.NotAccepted = SpellSomeRefs bytes × (IsTrue (accepts keyring node bytes sig) → ⊥)
RefusesText keyring node sig bytes (sigrefs.Get why) = why ≡ gets.NoMemory

-- the refs that the commit has, accepted as the node's
abbrev pub IsAcceptedAs : ObjectMap → Contents → Nid → Oid → List Line → Type 0
IsAcceptedAs objects keyring node commit refs = (found : Sigrefs) × HasAccepted objects keyring node commit found × (refs ≡ found.refs)

-- why there are none: the blobs are not those of signed refs, or the keyring does not accept them
abbrev pub RefusesCommit : ObjectMap → Contents → Nid → Oid → SigrefsFault → Type 0
RefusesCommit objects keyring node commit sigrefs.Bad = (found : Sigrefs) → HasSigrefs objects commit found → ⊥
RefusesCommit objects keyring node commit sigrefs.NotAccepted =
    ((found : Sigrefs) × HasSigrefs objects commit found) × ((found : Sigrefs) → HasAccepted objects keyring node commit found → ⊥)
RefusesCommit objects keyring node commit (sigrefs.Get why) = Unit {0}

-- the fault of objects that a refusal is
abbrev pub sigrefs_fault_in : SigrefsFault → Option GetFault
sigrefs_fault_in sigrefs.Bad = None
sigrefs_fault_in sigrefs.NotAccepted = None
sigrefs_fault_in (sigrefs.Get why) = Some why
