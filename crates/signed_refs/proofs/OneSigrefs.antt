-- A commit has signed refs in one way.
use Rattle.std.proofs.Common.{◌≡◌, ℕ, List, ap, subst, ◌∙◌}
use Rattle.std.specs.Prelude.{codes}
use Rattle.rad_base.specs.declared.names.Nid.{Nid}
use Rattle.rad_base.specs.declared.names.Oid.{Oid}
use Rattle.rad_base.specs.declared.names.Sig.{Sig}
use Rattle.git_object.specs.declared.kind.Kind.TheVariants as kinds
use Rattle.commit_graph.specs.Objects.{ObjectMap}
use Rattle.keyring.specs.Contents.{Contents}
use Rattle.tree_entry.proofs.OneEntry.{one_commit_entry, one_content}
use Rattle.signed_refs.specs.Lines.{SpellsRefs}
use Rattle.signed_refs.specs.Signed.{HasAccepted, HasBlob, HasSigrefs, IsAcceptedBy, Sigrefs}
use Rattle.signed_refs.proofs.Compared.{one_list}

-- the blob of a name has one content
pub one_blob : (objects : ObjectMap) (commit : Oid) (name a b : List ℕ) → HasBlob objects commit name a → HasBlob objects commit name b → a ≡ b
one_blob objects commit name a b h k =
    let oid = one_commit_entry objects commit kinds.Blob name h.oid k.oid h.entry k.entry in
    one_content (objects h.oid) kinds.Blob a b h.there (ap objects oid ∙ k.there)

sig_of : List ℕ → Sig
sig_of bytes = record { 0 = bytes }

-- signatures of the same bytes are one
pub one_sig : (a b : Sig) → a.0 ≡ b.0 → a ≡ b
unfolding sig_of
one_sig a b e = ap sig_of e

same_parts : (a b : Sigrefs) → a.text ≡ b.text → a.refs ≡ b.refs → a.sig ≡ b.sig → a ≡ b
same_parts a b e f g = (λ i. record { text = e i; refs = f i; sig = g i })

-- signed refs of a commit are one
pub one_sigrefs : (objects : ObjectMap) (commit : Oid) (a b : Sigrefs) → HasSigrefs objects commit a → HasSigrefs objects commit b → a ≡ b
one_sigrefs objects commit a b h k =
    let text = one_blob objects commit (codes "refs") a.text b.text h.refs k.refs in
    let sig = one_sig a.sig b.sig (one_blob objects commit (codes "signature") a.sig.0 b.sig.0 h.signature k.signature) in
    same_parts a b text
    (one_list b.text a.refs b.refs (subst (λ (l : List ℕ). SpellsRefs a.refs l) text h.lines) k.lines) sig

-- what is accepted of a commit is what was found
pub accepted_is : (objects : ObjectMap) (keyring : Contents) (node : Nid) (commit : Oid) (found other : Sigrefs) → HasSigrefs objects commit found
    → HasAccepted objects keyring node commit other → IsAcceptedBy keyring node found
accepted_is objects keyring node commit found other h a =
    subst (IsAcceptedBy keyring node) (one_sigrefs objects commit other found a.has h) a.accepted
