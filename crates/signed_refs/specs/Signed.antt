-- What a node's signed commit says of its refs.
use Rattle.std.specs.Prelude.{◌≡◌, ℕ, List, Contains, codes, IsTrue, Some}
use Rattle.rad_base.specs.declared.names.Nid.{Nid}
use Rattle.rad_base.specs.declared.names.Oid.{Oid}
use Rattle.rad_base.specs.declared.names.Rid.{Rid}
use Rattle.rad_base.specs.declared.names.Sig.{Sig}
use Rattle.rad_base.specs.Sizes.{IsSig}
use Rattle.git_object.specs.declared.kind.Kind.TheVariants as kinds
use Rattle.commit_graph.specs.Closures.{IsClosedCommit}
use Rattle.commit_graph.specs.Objects.{ObjectMap}
use Rattle.keyring.specs.Contents.{Contents, accepts}
use Rattle.tree_entry.specs.Embedded.{IsIdentityRoot}
use Rattle.tree_entry.specs.Entries.{HasCommitEntry}
use Rattle.signed_refs.specs.Lines.{Line, SpellsRefs}

-- the tree of the commit has a blob of this name, which has these bytes
pub record HasBlob (objects : ObjectMap) (commit : Oid) (entry_name bytes : List ℕ) : Type 0 where
  pub oid : Oid
  pub entry : HasCommitEntry objects commit kinds.Blob entry_name oid
  pub there : objects oid ≡ Some (kinds.Blob, bytes)

-- the bytes of some refs, the refs, and a signature
pub record Sigrefs : Type 0 where
  pub text : List ℕ
  pub refs : List Line
  pub sig : Sig

-- the blobs of the refs and of the signature are these
pub record HasSigrefs (objects : ObjectMap) (commit : Oid) (found : Sigrefs) : Type 0 where
  pub signature : HasBlob objects commit (codes "signature") found.sig.0
  pub size : IsSig found.sig
  pub refs : HasBlob objects commit (codes "refs") found.text
  pub lines : SpellsRefs found.refs found.text

-- the keyring accepts the node's signature over the bytes of the refs
abbrev pub IsAcceptedBy : Contents → Nid → Sigrefs → Type 0
IsAcceptedBy keyring node found = IsTrue (accepts keyring node found.text found.sig)

-- a line of the identity root, where there is one, names one of the repository
abbrev pub KeepsRoot : ObjectMap → Rid → List Line → Type 0
KeepsRoot objects rid refs = (oid : Oid) → Contains refs (codes "refs/rad/root", oid) → IsIdentityRoot objects rid oid

-- the commit has signed refs that the keyring accepts as the node's
pub record HasAccepted (objects : ObjectMap) (keyring : Contents) (node : Nid) (commit : Oid) (found : Sigrefs) : Type 0 where
  pub has : HasSigrefs objects commit found
  pub accepted : IsAcceptedBy keyring node found

-- the node's commit says these refs, and the keyring stands behind it
pub record Signed (objects : ObjectMap) (keyring : Contents) (rid : Rid) (node : Nid) (commit : Oid) (refs : List Line) : Type 0 where
  pub closed : IsClosedCommit objects commit
  pub found : Sigrefs
  pub are : HasAccepted objects keyring node commit found
  pub says : refs ≡ found.refs
  pub root : KeepsRoot objects rid refs
