-- A tip has one identity chain and one document.
use Rattle.std.proofs.Common.{◌≡◌, ℕ, List, [], ◌∷◌, Some, reverse, refl, sym, ap, subst, ◌∙◌}
use Rattle.std.proofs.lemmas.List.{reverse-append, reverse-reverse}
use Rattle.serde_json.specs.Data.{Data}
use Rattle.rad_base.specs.declared.names.Oid.{Oid}
use Rattle.rad_base.specs.declared.names.Rid.{Rid}
use Rattle.git_object.specs.declared.kind.Kind.TheVariants.{Blob, Commit}
use Rattle.git_object.specs.Links.{links}
use Rattle.keyring.specs.Contents.{Contents}
use Rattle.commit_graph.specs.Objects.{ObjectMap}
use Rattle.commit_graph.specs.Walks.{Walk}
use Rattle.commit_graph.specs.Chains.{HasParents, IsChain, IsLine, IsOnlyParent, linked_commits}
use Rattle.commit_graph.proofs.OneAnswer.{one_chain}
use Rattle.tree_entry.proofs.OneEntry.{one_content, one_embedded}
use Rattle.identity_doc.specs.declared.doc.Doc.{Doc}
use Rattle.identity_doc.specs.Documents.{IsDocument}
use Rattle.identity_doc.specs.Texts.{IsDocumentText}
use Rattle.identity_doc.specs.IdentityChains.{HasDocument, HasIdentity, IsIdentityChange, IsIdentityChain, IsIdentityLine}
use Rattle.identity_doc.proofs.OneDocument.{one_document}

-- an identity line is a chain of commits
walk_only : (m : ObjectMap) (keyring : Contents) (root : Oid) (later : List Oid) (tip : Oid) → Walk (IsIdentityChange m keyring) root later tip
    → Walk (IsOnlyParent m) root later tip
walk_only m keyring root [] tip w = w
walk_only m keyring root (x ∷ later) tip w = (w.0.only, walk_only m keyring x later tip w.1)

pub line_chain : (m : ObjectMap) (keyring : Contents) (rid : Rid) (commits : List Oid) (tip : Oid) → IsIdentityLine m keyring rid commits tip
    → IsChain m commits tip
line_chain m keyring rid [] tip line = line
line_chain m keyring rid (root ∷ later) tip line = (line.0.alone, walk_only m keyring root later tip line.1)

-- a tip has one identity chain
pub one_identity_chain : (m : ObjectMap) (keyring : Contents) (rid : Rid) (tip : Oid) (a b : List Oid) → IsIdentityChain m keyring rid tip a
    → IsIdentityChain m keyring rid tip b → a ≡ b
one_identity_chain m keyring rid tip a b h k = one_chain m a b tip (line_chain m keyring rid a tip h.line) (line_chain m keyring rid b tip k.line)

-- a text is one document
one_text : (keyring : Contents) (bytes : List ℕ) (a b : Doc) → IsDocumentText keyring bytes a → IsDocumentText keyring bytes b → a ≡ b
one_text keyring bytes a b h k =
    let value : h.value ≡ k.value = cc (h.json.reads, k.json.reads) in
    one_document k.value keyring a b (subst (λ (d : Data). IsDocument d keyring a) value h.says) k.says

-- a commit has one document
pub one_document_at : (m : ObjectMap) (keyring : Contents) (commit : Oid) (a b : Doc) → HasDocument m keyring commit a → HasDocument m keyring commit b
    → a ≡ b
one_document_at m keyring commit a b h k =
    let blob : h.0 ≡ k.0 = one_embedded m commit _ h.0 k.0 h.1.has.named k.1.has.named in
    let bytes = one_content (m k.0) Blob h.1.bytes k.1.bytes (subst (λ (o : Oid). m o ≡ Some (Blob, h.1.bytes)) blob h.1.has.there) k.1.has.there in
    one_text keyring k.1.bytes a b (subst (λ (l : List ℕ). IsDocumentText keyring l a) bytes h.1.text) k.1.text

-- a tip has one document
pub one_identity : (m : ObjectMap) (keyring : Contents) (rid : Rid) (tip : Oid) (a b : Doc) → HasIdentity m keyring rid tip a
    → HasIdentity m keyring rid tip b → a ≡ b
one_identity m keyring rid tip a b h k = one_document_at m keyring tip a b h.has k.has
