-- Pairs of a name and an expected kind, and the links between them.
use Rattle.std.specs.Prelude.{◌≡◌, ℕ, Bool, true, false, List, map, Contains, Option, Some, None}
use Rattle.rad_base.specs.declared.names.Oid.{Oid}
use Rattle.git_object.specs.declared.kind.Kind.{Kind}
use Rattle.git_object.specs.declared.kind.Kind.TheVariants.{Blob, Tree, Commit, Tag}
use Rattle.git_object.specs.declared.link.LinkTo.{LinkTo}
use Rattle.git_object.specs.Links.{links, IsWellFormed}
use Rattle.commit_graph.specs.declared.root.Root.{Root}
use Rattle.commit_graph.specs.Objects.{ObjectMap}

-- an object of this kind is one that was expected; a pair without a kind expects any
abbrev pub Accepts : Option Kind → Kind → Type 0
Accepts None kind = Unit {0}
Accepts (Some expected) kind = expected ≡ kind

-- the pair has no object
abbrev pub IsMissing : ObjectMap → Root → Type 0
IsMissing objects p = objects p.oid ≡ None

-- the pair has an object, of the expected kind and well formed
pub record IsFit (objects : ObjectMap) (p : Root) : Type 0 where
  pub kind : Kind
  pub bytes : List ℕ
  pub there : objects p.oid ≡ Some (kind, bytes)
  pub expected : Accepts p.kind kind
  pub formed : IsWellFormed kind bytes

-- the pair has an object, of another kind or malformed
pub record IsUnfit (objects : ObjectMap) (p : Root) : Type 0 where
  pub kind : Kind
  pub bytes : List ℕ
  pub there : objects p.oid ≡ Some (kind, bytes)
  pub unfit : Accepts p.kind kind → IsWellFormed kind bytes → ⊥

-- a link expects its kind
abbrev pub pair_of : LinkTo → Root
pair_of link = record { oid = link.oid; kind = Some link.kind }

-- the object of p is there, as expected and well formed, and q is one of its links
pub record IsLink (objects : ObjectMap) (p q : Root) : Type 0 where
  pub fit : IsFit objects p
  pub link : Contains (map pair_of (links fit.kind fit.bytes)) q

-- the test of a link to a commit
abbrev pub is_commit_kind : Kind → Bool
is_commit_kind Blob = false
is_commit_kind Tree = false
is_commit_kind Commit = true
is_commit_kind Tag = false

abbrev pub is_commit_link : LinkTo → Bool
is_commit_link link = is_commit_kind link.kind

-- a name as a commit
abbrev pub as_commit : Oid → Root
as_commit oid = record { oid = oid; kind = Some Commit }

-- the name of a pair
abbrev pub oid_of : Root → Oid
oid_of pair = pair.oid
