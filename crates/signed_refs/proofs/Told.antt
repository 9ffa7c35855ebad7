-- What the parts of `signed` tell of the objects.
use Rattle.std.proofs.Common.{◌≡◌, ℕ, ◌≤◌, Bool, List, Option, None, Some, Result, Ok, Err, refl, sym, ap, subst, ◌∙◌}
use Rattle.std.specs.Prelude.{codes, Contains, IfErr, IfNone, IfOk, IfSome, IsTrue, OnOk, ◌↔◌}
use Rattle.rad_base.specs.declared.names.Nid.{Nid}
use Rattle.rad_base.specs.declared.names.Oid.{Oid}
use Rattle.rad_base.specs.declared.names.Rid.{Rid}
use Rattle.rad_base.specs.declared.names.Sig.{Sig}
use Rattle.rad_base.specs.Sizes.{IsSig}
use Rattle.git_object.specs.declared.kind.Kind.TheVariants as kinds
use Rattle.rad_base.proofs.Options.{some_is}
use Rattle.commit_graph.specs.Closures.{IsClosedCommit}
use Rattle.commit_graph.specs.Objects.{ObjectMap}
use Rattle.keyring.specs.Contents.{Contents, accepts}
use Rattle.tree_entry.specs.Embedded.{IsIdentityRoot}
use Rattle.tree_entry.specs.Entries.{Finds, HasCommitEntry}
use Rattle.tree_entry.proofs.OneEntry.{one_commit_entry}
use Rattle.signed_refs.specs.Lines.{Line, SpellsRefs}
use Rattle.signed_refs.specs.Signed.{HasBlob, HasSigrefs, KeepsRoot, Signed, Sigrefs}
use Rattle.signed_refs.specs.Refusals.{Refuses}
use Rattle.signed_refs.specs.SignedParts.{FindsSignature, IsAcceptedAs, RefusesCommit, RefusesText, sig_fault}
use Rattle.signed_refs.specs.declared.fault.SigFault.{SigFault}
use Rattle.signed_refs.specs.declared.fault.SigFault.TheVariants.{BadObject, BadSigrefs, Get, Grafted, Missing, NotAccepted}
use Rattle.signed_refs.specs.declared.accepting.SigrefsFault.{SigrefsFault}
use Rattle.signed_refs.specs.declared.accepting.SigrefsFault.TheVariants as sigrefs
use Rattle.signed_refs.proofs.OneSigrefs.{accepted_is, one_blob, one_sigrefs}

-- ---- blobs

-- there is no blob of a name where the tree has no entry of it
pub no_entry : (objects : ObjectMap) (commit : Oid) (name bytes : List ℕ) (entry : Option Oid) → Finds (HasCommitEntry objects commit kinds.Blob name) entry
    → entry ≡ None → HasBlob objects commit name bytes → ⊥
no_entry objects commit name bytes entry finds none h =
    subst (Finds (HasCommitEntry objects commit kinds.Blob name)) none finds h.oid h.entry

-- the entry of a blob is the one that was found
pub entry_is : (objects : ObjectMap) (commit : Oid) (name bytes : List ℕ) (entry : Option Oid) (oid : Oid)
    → Finds (HasCommitEntry objects commit kinds.Blob name) entry → entry ≡ Some oid → HasBlob objects commit name bytes
    → objects oid ≡ Some (kinds.Blob, bytes)
entry_is objects commit name bytes entry oid finds some h =
    let found = subst (Finds (HasCommitEntry objects commit kinds.Blob name)) some finds in
    ap objects (one_commit_entry objects commit kinds.Blob name oid h.oid found h.entry) ∙ h.there

-- the blob that was found
pub blob_is : (objects : ObjectMap) (commit : Oid) (name bytes : List ℕ) (entry : Option Oid) (oid : Oid)
    → Finds (HasCommitEntry objects commit kinds.Blob name) entry → entry ≡ Some oid → objects oid ≡ Some (kinds.Blob, bytes)
    → HasBlob objects commit name bytes
blob_is objects commit name bytes entry oid finds some there = record {
  oid = oid;
  entry = subst (Finds (HasCommitEntry objects commit kinds.Blob name)) some finds;
  there = there;
}

-- the signature in the blob
pub signature_is : (objects : ObjectMap) (commit : Oid) (bytes : List ℕ) (r : Option Sig) → HasBlob objects commit (codes "signature") bytes
    → IfSome r (λ sig. IsSig sig × (bytes ≡ sig.0)) → IfNone r ((sig : Sig) → IsSig sig → bytes ≡ sig.0 → ⊥) → FindsSignature objects commit r
signature_is objects commit bytes None h found none = λ sig has.
    none sig has.0 (one_blob objects commit (codes "signature") bytes sig.0 h has.1)
signature_is objects commit bytes (Some sig) h found none =
    (found.0, subst (λ (l : List ℕ). HasBlob objects commit (codes "signature") l) found.1 h)

-- ---- refs

-- no signature, no signed refs
pub no_signature : (objects : ObjectMap) (commit : Oid) (r : Option Sig) (found : Sigrefs) → FindsSignature objects commit r → r ≡ None
    → HasSigrefs objects commit found → ⊥
no_signature objects commit r found finds none has = subst (FindsSignature objects commit) none finds found.sig (has.size, has.signature)

-- the parts that were found
pub sigrefs_are : (objects : ObjectMap) (commit : Oid) (r : Option Sig) (sig : Sig) (text : List ℕ) (refs : List Line) → FindsSignature objects commit r
    → r ≡ Some sig → HasBlob objects commit (codes "refs") text → SpellsRefs refs text
    → HasSigrefs objects commit (record { text = text; refs = refs; sig = sig })
sigrefs_are objects commit r sig text refs finds some blob lines =
    let signature = subst (FindsSignature objects commit) some finds in
    record { signature = signature.1; size = signature.0; refs = blob; lines = lines }

-- accepted refs
pub accepted_are : (objects : ObjectMap) (keyring : Contents) (node : Nid) (commit : Oid) (r : Option Sig) (sig : Sig) (text : List ℕ) (refs : List Line)
    → FindsSignature objects commit r → r ≡ Some sig → HasBlob objects commit (codes "refs") text → SpellsRefs refs text
    → IsTrue (accepts keyring node text sig) → IsAcceptedAs objects keyring node commit refs
accepted_are objects keyring node commit r sig text refs finds some blob lines accepted = (
  record { text = text; refs = refs; sig = sig },
  record { has = sigrefs_are objects commit r sig text refs finds some blob lines; accepted = accepted },
  refl,
)

-- refused bytes are those of no accepted refs
pub text_refused : (objects : ObjectMap) (keyring : Contents) (node : Nid) (commit : Oid) (r : Option Sig) (sig : Sig) (text : List ℕ) (fault : SigrefsFault)
    → FindsSignature objects commit r → r ≡ Some sig → HasBlob objects commit (codes "refs") text → RefusesText keyring node sig text fault
    → RefusesCommit objects keyring node commit fault
text_refused objects keyring node commit r sig text sigrefs.Bad finds some blob h = λ found has.
    h (found.refs, subst (λ (l : List ℕ). SpellsRefs found.refs l) (one_blob objects commit (codes "refs") found.text text has.refs blob) has.lines)
text_refused objects keyring node commit r sig text sigrefs.NotAccepted finds some blob h =
    let has = sigrefs_are objects commit r sig text h.0.0 finds some blob h.0.1 in
    ((_, has), λ other a. h.1 (accepted_is objects keyring node commit _ other has a))
text_refused objects keyring node commit r sig text (sigrefs.Get why) finds some blob h = tt

-- what was read of the bytes and accepted
pub told_accepted : (objects : ObjectMap) (keyring : Contents) (node : Nid) (commit : Oid) (r : Option Sig) (sig : Sig) (text : List ℕ)
    (answer : Result (List Line) SigrefsFault) → FindsSignature objects commit r → r ≡ Some sig → HasBlob objects commit (codes "refs") text
    → IfOk answer (λ refs. SpellsRefs refs text) → OnOk answer (IsTrue (accepts keyring node text sig))
    → IfOk answer (IsAcceptedAs objects keyring node commit)
told_accepted objects keyring node commit r sig text (Ok refs) finds some blob lines accepted =
    accepted_are objects keyring node commit r sig text refs finds some blob lines accepted
told_accepted objects keyring node commit r sig text (Err fault) finds some blob lines accepted = tt

-- and why it was not
pub told_refused : (objects : ObjectMap) (keyring : Contents) (node : Nid) (commit : Oid) (r : Option Sig) (sig : Sig) (text : List ℕ)
    (answer : Result (List Line) SigrefsFault) → FindsSignature objects commit r → r ≡ Some sig → HasBlob objects commit (codes "refs") text
    → IfErr answer (RefusesText keyring node sig text) → IfErr answer (RefusesCommit objects keyring node commit)
told_refused objects keyring node commit r sig text (Ok refs) finds some blob h = tt
told_refused objects keyring node commit r sig text (Err fault) finds some blob h =
    text_refused objects keyring node commit r sig text fault finds some blob h

-- ---- the whole

-- a refusal of a closed commit
pub unaccepted_refuses : (objects : ObjectMap) (keyring : Contents) (rid : Rid) (node : Nid) (commit : Oid) (fault : SigrefsFault)
    → IsClosedCommit objects commit → RefusesCommit objects keyring node commit fault → Refuses objects keyring rid node commit (sig_fault fault)
unaccepted_refuses objects keyring rid node commit sigrefs.Bad closed h = record { closed = closed; none = h }
unaccepted_refuses objects keyring rid node commit sigrefs.NotAccepted closed h = record { closed = closed; found = h.0.0; has = h.0.1; none = h.1 }
unaccepted_refuses objects keyring rid node commit (sigrefs.Get why) closed h = tt

-- refs whose root is none of the repository are grafted
pub grafted : (objects : ObjectMap) (keyring : Contents) (rid : Rid) (node : Nid) (commit : Oid) (refs : List Line) → IsClosedCommit objects commit
    → IsAcceptedAs objects keyring node commit refs → (KeepsRoot objects rid refs → ⊥) → Refuses objects keyring rid node commit Grafted
grafted objects keyring rid node commit refs closed a none = record {
  closed = closed;
  found = a.0;
  are = a.1;
  none = λ others s.
      let same = one_sigrefs objects commit s.found a.0 s.are.has a.1.has in
      let refs_same : others ≡ refs = s.says ∙ ap (λ (f : Sigrefs). f.refs) same ∙ sym a.2 in
      none (subst (KeepsRoot objects rid) refs_same s.root);
}

-- the node's commit says the refs
pub is_signed : (objects : ObjectMap) (keyring : Contents) (rid : Rid) (node : Nid) (commit : Oid) (refs : List Line) → IsClosedCommit objects commit
    → IsAcceptedAs objects keyring node commit refs → KeepsRoot objects rid refs → Signed objects keyring rid node commit refs
is_signed objects keyring rid node commit refs closed a root = record { closed = closed; found = a.0; are = a.1; says = a.2; root = root }

-- ---- the root

-- the root that was looked up is the only one
pub root_kept : (objects : ObjectMap) (rid : Rid) (refs : List Line) (r : Option Oid) (root : Oid) (b : Bool)
    → ((oid : Oid) → (r ≡ Some oid) ↔ Contains refs (codes "refs/rad/root", oid)) → r ≡ Some root → (IsTrue b ↔ IsIdentityRoot objects rid root)
    → IsTrue b ↔ KeepsRoot objects rid refs
root_kept objects rid refs r root b lookup some is = (
  λ t oid has. subst (IsIdentityRoot objects rid) (some_is root oid (sym some ∙ (lookup oid).1 has)) (is.0 t),
  λ keeps. is.1 (keeps root ((lookup root).0 some)),
)
