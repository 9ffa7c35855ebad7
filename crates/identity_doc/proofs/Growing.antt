-- Identities stay as objects are added.
use Rattle.std.proofs.Common.{ℕ, List, [], ◌∷◌}
use Rattle.rad_base.specs.declared.names.Oid.{Oid}
use Rattle.rad_base.specs.declared.names.Rid.{Rid}
use Rattle.commit_graph.specs.Objects.{ObjectMap}
use Rattle.commit_graph.specs.Pairs.{as_commit}
use Rattle.keyring.specs.Contents.{Contents}
use Rattle.commit_graph.specs.Objects.{Grows}
use Rattle.commit_graph.proofs.Growing.{closed_grows, parents_grow, walk_along}
use Rattle.tree_entry.proofs.Growing.{embedded_grows}
use Rattle.identity_doc.specs.declared.doc.Doc.{Doc}
use Rattle.identity_doc.specs.IdentityChains.{HasDocument, HasDocumentIn, HasDocumentText, HasIdentity, HasSigners, IsIdentityChain, IsIdentityChange, IsIdentityLine}

module _ {old new : ObjectMap} (grows : Grows old new) where
  text_grows : (commit blob : Oid) (bytes : List ℕ) → HasDocumentText old commit blob bytes → HasDocumentText new commit blob bytes
  text_grows commit blob bytes h = record { named = embedded_grows grows commit _ blob h.named; there = grows blob _ h.there }

  document_in_grows : (keyring : Contents) (commit blob : Oid) (doc : Doc) → HasDocumentIn old keyring commit blob doc → HasDocumentIn new keyring commit blob doc
  document_in_grows keyring commit blob doc h = record { bytes = h.bytes; has = text_grows commit blob h.bytes h.has; text = h.text }

  -- a commit's document stays
  pub document_grows : (keyring : Contents) (commit : Oid) (doc : Doc) → HasDocument old keyring commit doc → HasDocument new keyring commit doc
  document_grows keyring commit doc h = (h.0, document_in_grows keyring commit h.0 doc h.1)

  -- so do those that signed a change
  signers_grow : (keyring : Contents) (parent : Oid) (before : Doc) (commit : Oid) (n : ℕ) → HasSigners old keyring parent before commit n → HasSigners new keyring parent before commit n
  signers_grow keyring parent before commit n h = record {
    blob = h.blob;
    named = embedded_grows grows commit _ h.blob h.named;
    lines = h.lines;
    has = record {
      bytes = h.has.bytes;
      has = record { blob = h.has.has.blob; named = embedded_grows grows commit _ h.has.has.blob h.has.has.named; there = grows h.has.has.blob _ h.has.has.there };
      are = h.has.are;
    };
    count = h.count;
  }

  change_grows : (keyring : Contents) (parent commit : Oid) → IsIdentityChange old keyring parent commit → IsIdentityChange new keyring parent commit
  change_grows keyring parent commit h = record {
    only = parents_grow grows commit (parent ∷ []) h.only;
    after = h.after;
    has = document_grows keyring commit h.after h.has;
    before = h.before;
    had = document_grows keyring parent h.before h.had;
    approved = record { signers = h.approved.signers; signed = signers_grow keyring parent h.before commit h.approved.signers h.approved.signed; enough = h.approved.enough };
  }

  line_grows : (keyring : Contents) (rid : Rid) (commits : List Oid) (tip : Oid) → IsIdentityLine old keyring rid commits tip → IsIdentityLine new keyring rid commits tip
  line_grows keyring rid [] tip line = line
  line_grows keyring rid (root ∷ later) tip line = (
    record { alone = parents_grow grows root [] line.0.alone; doc = line.0.doc; has = document_in_grows keyring root rid.0 line.0.doc line.0.has },
    walk_along _ _ (change_grows keyring) root later tip line.1,
  )

  -- an identity chain stays one
  pub chain_grows : (keyring : Contents) (rid : Rid) (tip : Oid) (commits : List Oid) → IsIdentityChain old keyring rid tip commits → IsIdentityChain new keyring rid tip commits
  chain_grows keyring rid tip commits h =
      record { closed = closed_grows grows (as_commit tip ∷ []) h.closed; line = line_grows keyring rid commits tip h.line }

  -- an identity stays one, with its document
  pub identity_grows : (keyring : Contents) (rid : Rid) (tip : Oid) (doc : Doc) → HasIdentity old keyring rid tip doc → HasIdentity new keyring rid tip doc
  identity_grows keyring rid tip doc h =
      record { commits = h.commits; chain = chain_grows keyring rid tip h.commits h.chain; has = document_grows keyring tip doc h.has }
