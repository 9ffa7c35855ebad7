-- What is shown of a repository, and when it is good.
use Rattle.std.specs.Prelude.{◌≡◌, ◌≤◌, List, map, length, Contains, None, Some}
use Rattle.rad_base.specs.declared.names.Nid.{Nid}
use Rattle.rad_base.specs.declared.names.Oid.{Oid}
use Rattle.rad_base.specs.declared.names.Rid.{Rid}
use Rattle.commit_graph.specs.declared.root.Root.{Root}
use Rattle.commit_graph.specs.Objects.{Object, ObjectMap}
use Rattle.commit_graph.specs.Closures.{IsClosed}
use Rattle.keyring.specs.Contents.{Contents}
use Rattle.identity_doc.specs.declared.doc.Doc.{Doc}
use Rattle.identity_doc.specs.IdentityChains.{HasIdentity}
use Rattle.signed_refs.specs.Lines.{Line}
use Rattle.signed_refs.specs.Signed.{Signed}

-- what is shown of a repository: objects, an identity commit, and a commit of signed refs for each remote
pub record Showing : Type 0 where
  pub objects : ObjectMap
  pub id : Oid
  pub remotes : List (Nid × Oid)

-- a name of any kind
abbrev pub any_kind : Oid → Root
any_kind oid = record { oid = oid; kind = None }

-- what a line names, of any kind
abbrev pub line_root : Line → Root
line_root line = any_kind line.1

-- what the lines name
abbrev pub line_roots : List Line → List Root
line_roots lines = map line_root lines

-- the node's commit says refs that the keyring accepts, and all that they reach is there and well formed
pub record IsSound (objects : ObjectMap) (keyring : Contents) (rid : Rid) (node : Nid) (commit : Oid) : Type 0 where
  pub refs : List Line
  pub signed : Signed objects keyring rid node commit refs
  pub closed : IsClosed objects (line_roots refs)

-- no object is too long for a section
abbrev pub IsShort : ObjectMap → Type 0
IsShort objects = (oid : Oid) (object : Object) → objects oid ≡ Some object → length object.1 ≤ 33554432

-- the identity commit has a chain, each remote is sound, and no object is too long to be sent
pub record IsGood (shown : Showing) (keyring : Contents) (rid : Rid) : Type 0 where
  pub doc : Doc
  pub identity : HasIdentity shown.objects keyring rid shown.id doc
  pub sound : (node : Nid) (commit : Oid) → Contains shown.remotes (node, commit) → IsSound shown.objects keyring rid node commit
  pub short : IsShort shown.objects
