-- What is answered to a request.
use Rattle.std.specs.Prelude.{◌≡◌, ◌↔◌, ◌⊎◌, ℕ, Bool, true, false, List, [], ◌∷◌, Contains, codes, Option, None, Some}
use Rattle.std.specs.List.{flat_map, list_any}
use Rattle.std.specs.List.Sorted.{IsStrictlySortedBy}
use Rattle.std.specs.Option.{is_none}
use Rattle.rad_base.specs.Order.{commit_of, oid_cmp}
use Rattle.rad_base.specs.declared.names.Nid.{Nid}
use Rattle.rad_base.specs.declared.names.Oid.{Oid}
use Rattle.rad_base.specs.declared.names.Rid.{Rid}
use Rattle.git_object.specs.declared.kind.Kind.TheVariants as kinds
use Rattle.commit_graph.specs.declared.root.Root.{Root}
use Rattle.commit_graph.specs.Closures.{IsReachedName}
use Rattle.commit_graph.specs.Objects.{ObjectMap}
use Rattle.commit_graph.specs.Objects.{Object as Held}
use Rattle.commit_graph.specs.Pairs.{as_commit}
use Rattle.keyring.specs.Contents.{Contents}
use Rattle.identity_doc.specs.Documents.{Sees}
use Rattle.identity_doc.specs.IdentityChains.{HasIdentity}
use Rattle.identity_doc.specs.declared.doc.Doc.{Doc}
use Rattle.tree_entry.specs.Entries.{HasCommitEntry}
use Rattle.signed_refs.specs.Lines.{Line}
use Rattle.signed_refs.specs.Said.{Says}
use Rattle.fetch_wire.specs.Sections.{Object, part_text, parts_of}
use Rattle.fetch_wire.specs.declared.part.Part.{Part}
use Rattle.fetch_wire.specs.declared.part.Part.TheVariants as part
use Rattle.fetch_wire.specs.declared.request.Request.{Request}
use Rattle.fetch_wire.specs.declared.request.Request.TheVariants as request
use Rattle.fetch_serve.specs.Good.{Showing, any_kind, line_root}

-- ---- what a request says

-- the repository that is asked for, if one is
abbrev pub rid_of : Request → Option Rid
rid_of (request.Begin rid haves) = Some rid
rid_of (request.Sigs rid haves nodes) = Some rid
rid_of (request.Tips rid haves nodes) = Some rid
rid_of request.Done = None

-- the haves
abbrev pub haves_of : Request → List Oid
haves_of (request.Begin rid haves) = haves
haves_of (request.Sigs rid haves nodes) = haves
haves_of (request.Tips rid haves nodes) = haves
haves_of request.Done = []

-- the nodes that are named
abbrev pub nodes_of : Request → List Nid
nodes_of (request.Begin rid haves) = []
nodes_of (request.Sigs rid haves nodes) = nodes
nodes_of (request.Tips rid haves nodes) = nodes
nodes_of request.Done = []

-- a node that is named has no remote
abbrev pub lacks : List (Nid × Oid) → List Nid → Bool
lacks remotes nodes = list_any (λ node. is_none (commit_of remotes node)) nodes

-- ---- what is sent

-- P holds of an item of the list and of this
pub record Among {X Y : Type 0} (items : List X) (P : X → Y → Type 0) (y : Y) : Type 0 where
  pub item : X
  pub among : Contains items item
  pub holds : P item y

-- the commit of a node's remote
abbrev pub IsSigsRoot : Showing → Nid → Root → Type 0
IsSigsRoot shown node root = (commit : Oid) × (commit_of shown.remotes node ≡ Some commit) × (root ≡ as_commit commit)

-- a name in a line of the refs of a node's remote
abbrev pub IsTipsRoot : Showing → Nid → Root → Type 0
IsTipsRoot shown node root =
    (commit : Oid) × (commit_of shown.remotes node ≡ Some commit)
    × ((refs : List Line) × Says shown.objects commit refs × Among refs (λ line r. r ≡ line_root line) root)

-- the roots that are asked: the identity as a commit, the commits of the named remotes, or the names in their lines
abbrev pub IsAskedRoot : Showing → Request → Root → Type 0
IsAskedRoot shown (request.Begin rid haves) root = root ≡ as_commit shown.id
IsAskedRoot shown (request.Sigs rid haves nodes) root = Among nodes (IsSigsRoot shown) root
IsAskedRoot shown (request.Tips rid haves nodes) root = Among nodes (IsTipsRoot shown) root
IsAskedRoot shown request.Done root = ⊥

-- the name has an object
abbrev pub IsHeld : ObjectMap → Oid → Type 0
IsHeld objects oid = (object : Held) × (objects oid ≡ Some object)

-- it has, and this is it as a root of any kind
abbrev pub IsThere : ObjectMap → Oid → Root → Type 0
IsThere objects oid root = IsHeld objects oid × (root ≡ any_kind oid)

-- the tree of the commit has a directory `embeds`, as that of an identity commit has
abbrev pub Embeds : ObjectMap → Oid → Type 0
Embeds objects commit = (tree : Oid) × HasCommitEntry objects commit kinds.Tree (codes "embeds") tree

-- what the lines name that a commit says, which is none of an identity, where it is there
abbrev pub IsLineOf : ObjectMap → Oid → Root → Type 0
IsLineOf objects have root =
    (Embeds objects have → ⊥) × ((refs : List Line) × Says objects have refs × Among refs (λ line r. IsThere objects line.1 r) root)

-- what a have stands for: itself, and what its lines name, where they are there
abbrev pub StandsFor : ObjectMap → Oid → Root → Type 0
StandsFor objects have root = IsThere objects have root ⊎ IsLineOf objects have root

-- a name is reached from a root that has P
pub record IsReachedFrom (objects : ObjectMap) (P : Root → Type 0) (oid : Oid) : Type 0 where
  pub root : Root
  pub is : P root
  pub reached : IsReachedName objects (root ∷ []) oid

-- a name is reached from the asked roots, and from none that a have stands for
pub record IsSent (shown : Showing) (request : Request) (oid : Oid) : Type 0 where
  pub asked : IsReachedFrom shown.objects (IsAskedRoot shown request) oid
  pub beyond : IsReachedFrom shown.objects (Among (haves_of request) (StandsFor shown.objects)) oid → ⊥

-- ---- the reply

-- the head of the section that is asked
abbrev pub head_of : Showing → Request → Part
head_of shown (request.Begin rid haves) = part.Offer (record { id = shown.id; remotes = shown.remotes })
head_of shown (request.Sigs rid haves nodes) = part.SigsHead
head_of shown (request.Tips rid haves nodes) = part.TipsHead
head_of shown request.Done = part.End

-- these are the objects of the names, one by one
abbrev pub AreObjects : ObjectMap → List Oid → List Object → Type 0
AreObjects objects [] [] = Unit {0}
AreObjects objects [] (x ∷ xs) = ⊥
AreObjects objects (oid ∷ oids) [] = ⊥
AreObjects objects (oid ∷ oids) (x ∷ xs) = (objects oid ≡ Some x) × AreObjects objects oids xs

-- these are the names of what is sent, in order
pub record IsSentAs (shown : Showing) (request : Request) (names : List Oid) : Type 0 where
  pub rising : IsStrictlySortedBy oid_cmp names
  pub exact : (oid : Oid) → Contains names oid ↔ IsSent shown request oid

-- the section of a head and of what is sent, in order of name
pub record IsSection (shown : Showing) (request : Request) (bytes : List ℕ) : Type 0 where
  pub names : List Oid
  pub sent : IsSentAs shown request names
  pub objects : List Object
  pub are : AreObjects shown.objects names objects
  pub text : bytes ≡ flat_map part_text (parts_of (head_of shown request) objects)

-- the document lets the asker see the repository
pub record IsSeen (shown : Showing) (keyring : Contents) (request : Request) (asker : Nid) : Type 0 where
  pub rid : Rid
  pub asked : rid_of request ≡ Some rid
  pub doc : Doc
  pub identity : HasIdentity shown.objects keyring rid shown.id doc
  pub sees : Sees doc asker

-- refusals
abbrev pub refusal_text : ℕ → List ℕ
refusal_text code = part_text (part.Refused code)

-- 1 where the asker does not see the repository; else 2 where a named node has no remote; else the section
abbrev pub IsReply : Showing → Contents → Request → Nid → List ℕ → Type 0
IsReply shown keyring request asker bytes =
    ((IsSeen shown keyring request asker → ⊥) × (bytes ≡ refusal_text 1))
    ⊎ ((IsSeen shown keyring request asker × (lacks shown.remotes (nodes_of request) ≡ true) × (bytes ≡ refusal_text 2))
    ⊎ (IsSeen shown keyring request asker × (lacks shown.remotes (nodes_of request) ≡ false) × IsSection shown request bytes))
