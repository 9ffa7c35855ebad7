-- Chains of identity commits: from a root, whose document names the repository, each commit a change of the one before
-- that a majority of the delegates before it signed.
use Rattle.std.specs.Prelude.{◌≡◌, ℕ, ◌≤◌, List, [], ◌∷◌, length, Some}
use Rattle.rad_base.specs.declared.names.Oid.{Oid}
use Rattle.rad_base.specs.declared.names.Rid.{Rid}
use Rattle.git_object.specs.declared.kind.Kind.TheVariants.{Blob}
use Rattle.keyring.specs.Contents.{Contents}
use Rattle.commit_graph.specs.Objects.{ObjectMap}
use Rattle.commit_graph.specs.Pairs.{as_commit}
use Rattle.commit_graph.specs.Walks.{Walk}
use Rattle.commit_graph.specs.Closures.{IsClosed}
use Rattle.commit_graph.specs.Chains.{HasParents, IsOnlyParent}
use Rattle.tree_entry.specs.Embedded as embedded
use Rattle.identity_doc.specs.declared.doc.Doc.{Doc}
use Rattle.identity_doc.specs.declared.signatures.SignatureLine.{SignatureLine}
use Rattle.identity_doc.specs.Majorities.{change_message, majority, signed_by}
use Rattle.identity_doc.specs.Signatures.{AreSignatures}
use Rattle.identity_doc.specs.Texts.{IsDocumentText}

-- the name has a blob of these bytes
abbrev pub IsBlob : ObjectMap → Oid → List ℕ → Type 0
IsBlob objects blob bytes = objects blob ≡ Some (Blob, bytes)

-- the commit's document blob is this one, of these bytes
pub record HasDocumentText (objects : ObjectMap) (commit blob : Oid) (bytes : List ℕ) : Type 0 where
  pub named : embedded.HasDocumentBlob objects commit blob
  pub there : IsBlob objects blob bytes

-- the commit's blob of signatures has these bytes
pub record HasSignaturesText (objects : ObjectMap) (commit : Oid) (bytes : List ℕ) : Type 0 where
  pub blob : Oid
  pub named : embedded.HasSignaturesBlob objects commit blob
  pub there : IsBlob objects blob bytes

-- the commit has this document, in this blob
pub record HasDocumentIn (objects : ObjectMap) (keyring : Contents) (commit blob : Oid) (doc : Doc) : Type 0 where
  pub bytes : List ℕ
  pub has : HasDocumentText objects commit blob bytes
  pub text : IsDocumentText keyring bytes doc

-- the commit has this document
abbrev pub HasDocument : ObjectMap → Contents → Oid → Doc → Type 0
HasDocument objects keyring commit doc = (blob : Oid) × HasDocumentIn objects keyring commit blob doc

-- the commit's signatures are these lines
pub record HasSignatures (objects : ObjectMap) (commit : Oid) (lines : List SignatureLine) : Type 0 where
  pub bytes : List ℕ
  pub has : HasSignaturesText objects commit bytes
  pub are : AreSignatures bytes lines

-- n of the delegates of the document before signed the change of the parent's document to the commit's
pub record HasSigners (objects : ObjectMap) (keyring : Contents) (parent : Oid) (before : Doc) (commit : Oid) (n : ℕ) : Type 0 where
  pub blob : Oid
  pub named : embedded.HasDocumentBlob objects commit blob
  pub lines : List SignatureLine
  pub has : HasSignatures objects commit lines
  pub count : n ≡ signed_by keyring (change_message parent blob) lines before.delegates

-- more than half of the delegates of the document before signed the change
pub record IsApproved (objects : ObjectMap) (keyring : Contents) (parent : Oid) (before : Doc) (commit : Oid) : Type 0 where
  pub signers : ℕ
  pub signed : HasSigners objects keyring parent before commit signers
  pub enough : majority (length before.delegates) ≤ signers

-- the commit has a document and one parent, of whose document the delegates approved the change
pub record IsIdentityChange (objects : ObjectMap) (keyring : Contents) (parent commit : Oid) : Type 0 where
  pub only : IsOnlyParent objects parent commit
  pub after : Doc
  pub has : HasDocument objects keyring commit after
  pub before : Doc
  pub had : HasDocument objects keyring parent before
  pub approved : IsApproved objects keyring parent before commit

-- the commit has no parent, and a document whose blob has the repository's name
pub record IsFirst (objects : ObjectMap) (keyring : Contents) (rid : Rid) (root : Oid) : Type 0 where
  pub alone : HasParents objects root []
  pub doc : Doc
  pub has : HasDocumentIn objects keyring root rid.0 doc

-- the first commit is a root of the repository, each later one a change of the one before, and the last is the tip
abbrev pub IsIdentityLine : ObjectMap → Contents → Rid → List Oid → Oid → Type 0
IsIdentityLine objects keyring rid [] tip = ⊥
IsIdentityLine objects keyring rid (root ∷ later) tip = IsFirst objects keyring rid root × Walk (IsIdentityChange objects keyring) root later tip

-- an identity line whose tip has this document
abbrev pub EndsLine : ObjectMap → Contents → Rid → List Oid → Oid → Doc → Type 0
EndsLine objects keyring rid commits tip doc = IsIdentityLine objects keyring rid commits tip × HasDocument objects keyring tip doc

-- the commits are an identity line, and the tip is closed as a commit
pub record IsIdentityChain (objects : ObjectMap) (keyring : Contents) (rid : Rid) (tip : Oid) (commits : List Oid) : Type 0 where
  pub closed : IsClosed objects (as_commit tip ∷ [])
  pub line : IsIdentityLine objects keyring rid commits tip

-- the tip has this document, and an identity chain leads to it
pub record HasIdentity (objects : ObjectMap) (keyring : Contents) (rid : Rid) (tip : Oid) (doc : Doc) : Type 0 where
  pub commits : List Oid
  pub chain : IsIdentityChain objects keyring rid tip commits
  pub has : HasDocument objects keyring tip doc
