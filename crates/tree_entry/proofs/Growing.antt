-- What commits and trees have stays as objects are added.
use Rattle.std.proofs.Common.{ℕ, List}
use Rattle.rad_base.specs.declared.names.Oid.{Oid}
use Rattle.rad_base.specs.declared.names.Rid.{Rid}
use Rattle.git_object.specs.Grammar.{Commit}
use Rattle.git_object.specs.declared.kind.Kind.{Kind}
use Rattle.commit_graph.specs.Objects.{ObjectMap}
use Rattle.commit_graph.specs.Objects.{Grows}
use Rattle.tree_entry.specs.Embedded.{HasEmbedded, IsIdentityRoot}
use Rattle.tree_entry.specs.Entries.{HasCommit, HasCommitEntry, HasEntry}

module _ {old new : ObjectMap} (grows : Grows old new) where
  -- a commit stays
  pub commit_grows : (oid : Oid) (commit : Commit) → HasCommit old oid commit → HasCommit new oid commit
  commit_grows oid commit h = record { bytes = h.bytes; there = grows oid _ h.there; spells = h.spells }

  -- so do the entries of a tree
  pub entry_grows : (tree : Oid) (kind : Kind) (name : List ℕ) (oid : Oid) → HasEntry old tree kind name oid → HasEntry new tree kind name oid
  entry_grows tree kind name oid h = record { bytes = h.bytes; there = grows tree _ h.there; is = h.is }

  -- and those of a commit's tree
  pub commit_entry_grows : (oid : Oid) (kind : Kind) (name : List ℕ) (found : Oid) → HasCommitEntry old oid kind name found → HasCommitEntry new oid kind name found
  commit_entry_grows oid kind name found h =
      record { commit = h.commit; has = commit_grows oid h.commit h.has; entry = entry_grows h.commit.tree kind name found h.entry }

  -- and what a commit embeds
  pub embedded_grows : (oid : Oid) (name : List ℕ) (blob : Oid) → HasEmbedded old oid name blob → HasEmbedded new oid name blob
  embedded_grows oid name blob h =
      record { embeds = h.embeds; directory = commit_entry_grows oid _ _ h.embeds h.directory; entry = entry_grows h.embeds _ name blob h.entry }

  -- an identity root stays one
  pub root_grows : (rid : Rid) (oid : Oid) → IsIdentityRoot old rid oid → IsIdentityRoot new rid oid
  root_grows rid oid h =
      record { commit = h.commit; has = commit_grows oid h.commit h.has; first = h.first; document = embedded_grows oid _ rid.0 h.document }
