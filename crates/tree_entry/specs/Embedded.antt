-- What an identity commit embeds: its document and the signatures of delegates.
use Rattle.std.specs.Prelude.{◌≡◌, ℕ, List, [], codes}
use Rattle.rad_base.specs.declared.names.Oid.{Oid}
use Rattle.rad_base.specs.declared.names.Rid.{Rid}
use Rattle.git_object.specs.Grammar.{Commit}
use Rattle.git_object.specs.declared.kind.Kind.TheVariants as kinds
use Rattle.commit_graph.specs.Objects.{ObjectMap}
use Rattle.tree_entry.specs.Entries.{HasCommit, HasCommitEntry, HasEntry}

-- the directory `embeds` of the commit has a blob of this name
pub record HasEmbedded (objects : ObjectMap) (oid : Oid) (entry_name : List ℕ) (blob : Oid) : Type 0 where
  pub embeds : Oid
  pub directory : HasCommitEntry objects oid kinds.Tree (codes "embeds") embeds
  pub entry : HasEntry objects embeds kinds.Blob entry_name blob

-- the blob of the commit's identity document
abbrev pub HasDocumentBlob : ObjectMap → Oid → Oid → Type 0
HasDocumentBlob objects oid blob = HasEmbedded objects oid (codes "radicle.json") blob

-- the blob of the delegates' signatures
abbrev pub HasSignaturesBlob : ObjectMap → Oid → Oid → Type 0
HasSignaturesBlob objects oid blob = HasEmbedded objects oid (codes "signatures") blob

-- A commit without parents whose document has the repository's name. The blob of the document need
-- not be there.
pub record IsIdentityRoot (objects : ObjectMap) (rid : Rid) (oid : Oid) : Type 0 where
  pub commit : Commit
  pub has : HasCommit objects oid commit
  pub first : commit.parents ≡ []
  pub document : HasDocumentBlob objects oid rid.0
