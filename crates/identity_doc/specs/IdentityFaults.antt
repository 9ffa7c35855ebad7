-- Why there is no identity chain.
use Rattle.std.specs.Prelude.{◌≡◌, ◌≢◌, ℕ, ◌<◌, ◌≤◌, List, [], ◌∷◌, ◌++◌, length, ◌⊎◌, Option, None, Some}
use Rattle.rad_base.specs.declared.names.Oid.{Oid}
use Rattle.rad_base.specs.declared.names.Rid.{Rid}
use Rattle.keyring.specs.Contents.{Contents}
use Rattle.commit_graph.specs.declared.answer.Closure.TheVariants as closure
use Rattle.commit_graph.specs.declared.fault.GetFault.{GetFault}
use Rattle.commit_graph.specs.Objects.{ObjectMap}
use Rattle.commit_graph.specs.Pairs.{as_commit}
use Rattle.commit_graph.specs.Closures.{IsClosed, IsClosure}
use Rattle.commit_graph.specs.Chains.{IsChain, IsFork, IsReturn}
use Rattle.tree_entry.specs.Embedded as embedded
use Rattle.identity_doc.specs.declared.doc.Doc.{Doc}
use Rattle.identity_doc.specs.declared.fault.DocFault.{DocFault}
use Rattle.identity_doc.specs.declared.id_fault.IdFault.{IdFault}
use Rattle.identity_doc.specs.declared.id_fault.IdFault.TheVariants.{Missing, BadObject, TwoParents, NoRoot, NoDocument, WrongRoot, NotJson, BadDocument, BadSignatures, TooFew, Get}
use Rattle.identity_doc.specs.Majorities.{majority}
use Rattle.identity_doc.specs.Signatures.{BreaksSignaturesAt}
use Rattle.identity_doc.specs.Texts.{IsBadText, IsNoJson}
use Rattle.identity_doc.specs.IdentityChains.{HasDocument, HasDocumentText, HasSigners, HasSignaturesText, IsIdentityLine}

-- the commit has no document blob
abbrev pub LacksDocument : ObjectMap → Oid → Type 0
LacksDocument objects commit = (blob : Oid) (bytes : List ℕ) → HasDocumentText objects commit blob bytes → ⊥

-- the commit's document blob is this one, and no JSON
abbrev pub HasNoJson : ObjectMap → Oid → Oid → Type 0
HasNoJson objects commit blob = (bytes : List ℕ) × HasDocumentText objects commit blob bytes × IsNoJson bytes

-- the commit's document blob is this one, and its value fails this check of documents
abbrev pub HasBadDocument : ObjectMap → Contents → Oid → Oid → DocFault → Type 0
HasBadDocument objects keyring commit blob why = (bytes : List ℕ) × HasDocumentText objects commit blob bytes × IsBadText keyring bytes why

-- this line of the commit's signatures is the first broken one; 0, where there is no blob of them
abbrev pub HasBrokenLine : ObjectMap → Oid → ℕ → Type 0
HasBrokenLine objects commit n =
    ((n ≡ 0) × ((bytes : List ℕ) → HasSignaturesText objects commit bytes → ⊥))
    ⊎ ((bytes : List ℕ) × HasSignaturesText objects commit bytes × BreaksSignaturesAt n bytes)

-- the commit has a document
abbrev pub HasSomeDocument : ObjectMap → Contents → Oid → Type 0
HasSomeDocument objects keyring commit = (doc : Doc) × HasDocument objects keyring commit doc

-- fewer of the delegates signed the change than more than half of them
pub record IsUnapproved (objects : ObjectMap) (keyring : Contents) (parent : Oid) (before : Doc) (commit : Oid) (have need : ℕ) : Type 0 where
  pub signed : HasSigners objects keyring parent before commit have
  pub majority : need ≡ majority (length before.delegates)
  pub few : have < need

-- the first rule that a commit without parents breaks
abbrev pub FailsFirst : ObjectMap → Contents → Rid → Oid → IdFault → Type 0
FailsFirst objects keyring rid root (NoDocument oid) = (oid ≡ root) × LacksDocument objects root
FailsFirst objects keyring rid root (WrongRoot oid) = (oid ≡ root) × ((blob : Oid) × embedded.HasDocumentBlob objects root blob × (blob ≢ rid.0))
FailsFirst objects keyring rid root (NotJson oid) = (oid ≡ root) × HasNoJson objects root rid.0
FailsFirst objects keyring rid root (BadDocument oid why) = (oid ≡ root) × HasBadDocument objects keyring root rid.0 why
FailsFirst objects keyring rid root (Get why) = Unit {0}
FailsFirst objects keyring rid root other = ⊥

-- the first rule that a change of the document before breaks
abbrev pub FailsChange : ObjectMap → Contents → Oid → Doc → Oid → IdFault → Type 0
FailsChange objects keyring parent before commit (NoDocument oid) = (oid ≡ commit) × LacksDocument objects commit
FailsChange objects keyring parent before commit (NotJson oid) = (oid ≡ commit) × ((blob : Oid) × HasNoJson objects commit blob)
FailsChange objects keyring parent before commit (BadDocument oid why) = (oid ≡ commit) × ((blob : Oid) × HasBadDocument objects keyring commit blob why)
FailsChange objects keyring parent before commit (BadSignatures oid n) =
    (oid ≡ commit) × HasSomeDocument objects keyring commit × HasBrokenLine objects commit n
FailsChange objects keyring parent before commit (TooFew oid have need) =
    (oid ≡ commit) × HasSomeDocument objects keyring commit × IsUnapproved objects keyring parent before commit have need
FailsChange objects keyring parent before commit (Get why) = Unit {0}
FailsChange objects keyring parent before commit other = ⊥

-- the root of the tip's chain breaks a rule
pub record IsFaultAtRoot (objects : ObjectMap) (keyring : Contents) (rid : Rid) (tip : Oid) (fault : IdFault) : Type 0 where
  pub root : Oid
  pub later : List Oid
  pub chain : IsChain objects (root ∷ later) tip
  pub fails : FailsFirst objects keyring rid root fault

-- a later commit of the tip's chain breaks a rule, and none before it does
pub record IsFaultLater (objects : ObjectMap) (keyring : Contents) (rid : Rid) (tip : Oid) (fault : IdFault) : Type 0 where
  pub good : List Oid
  pub commit : Oid
  pub later : List Oid
  pub chain : IsChain objects (good ++ commit ∷ later) tip
  pub parent : Oid
  pub line : IsIdentityLine objects keyring rid good parent
  pub before : Doc
  pub had : HasDocument objects keyring parent before
  pub fails : FailsChange objects keyring parent before commit fault

-- a commit of the tip's chain is the first that breaks a rule
abbrev pub FailsLine : ObjectMap → Contents → Rid → Oid → IdFault → Type 0
FailsLine objects keyring rid tip fault = IsFaultAtRoot objects keyring rid tip fault ⊎ IsFaultLater objects keyring rid tip fault

-- the tip is closed as a commit, and a commit of its chain is the first that breaks a rule
pub record IsFaultInChain (objects : ObjectMap) (keyring : Contents) (rid : Rid) (tip : Oid) (fault : IdFault) : Type 0 where
  pub closed : IsClosed objects (as_commit tip ∷ [])
  pub first : FailsLine objects keyring rid tip fault

-- each refusal, in the order of the variants: the tip's closure, its chain, and the first commit that breaks a rule
abbrev pub IsIdFault : ObjectMap → Contents → Rid → Oid → IdFault → Type 0
IsIdFault objects keyring rid tip (Missing oid) = IsClosure objects (as_commit tip ∷ []) (closure.Missing oid)
IsIdFault objects keyring rid tip (BadObject oid) = IsClosure objects (as_commit tip ∷ []) (closure.BadObject oid)
IsIdFault objects keyring rid tip (TwoParents oid) = IsClosed objects (as_commit tip ∷ []) × IsFork objects tip oid
IsIdFault objects keyring rid tip (NoRoot oid) = IsClosed objects (as_commit tip ∷ []) × IsReturn objects tip oid
IsIdFault objects keyring rid tip (Get why) = Unit {0}
IsIdFault objects keyring rid tip other = IsFaultInChain objects keyring rid tip other

-- an object could not be had, or memory was refused
abbrev pub IsGet : IdFault → Type 0
IsGet fault = (why : GetFault) × (fault ≡ Get why)

-- the fault of objects that a refusal is
abbrev pub id_fault_in : IdFault → Option GetFault
id_fault_in (Get why) = Some why
id_fault_in other = None
