-- What commits say stays as objects are added.
use Rattle.std.proofs.Common.{ℕ, List, [], ◌∷◌}
use Rattle.rad_base.specs.declared.names.Nid.{Nid}
use Rattle.rad_base.specs.declared.names.Oid.{Oid}
use Rattle.rad_base.specs.declared.names.Rid.{Rid}
use Rattle.commit_graph.specs.Objects.{ObjectMap}
use Rattle.commit_graph.specs.Pairs.{as_commit}
use Rattle.keyring.specs.Contents.{Contents}
use Rattle.commit_graph.specs.Objects.{Grows}
use Rattle.commit_graph.proofs.Growing.{closed_grows}
use Rattle.tree_entry.proofs.Growing.{commit_entry_grows, root_grows}
use Rattle.signed_refs.specs.Lines.{Line}
use Rattle.signed_refs.specs.Said.{Says}
use Rattle.signed_refs.specs.Signed.{HasBlob, HasSigrefs, Signed, Sigrefs}

module _ {old new : ObjectMap} (grows : Grows old new) where
  -- a commit's blobs stay
  pub blob_grows : (commit : Oid) (name bytes : List ℕ) → HasBlob old commit name bytes → HasBlob new commit name bytes
  blob_grows commit name bytes h = record { oid = h.oid; entry = commit_entry_grows grows commit _ name h.oid h.entry; there = grows h.oid _ h.there }

  -- so do its signed refs
  pub sigrefs_grow : (commit : Oid) (found : Sigrefs) → HasSigrefs old commit found → HasSigrefs new commit found
  sigrefs_grow commit found h =
      record { signature = blob_grows commit _ _ h.signature; size = h.size; refs = blob_grows commit _ _ h.refs; lines = h.lines }

  -- what a commit says it goes on saying
  pub says_grows : (commit : Oid) (refs : List Line) → Says old commit refs → Says new commit refs
  says_grows commit refs h = (h.0, blob_grows commit _ h.0 h.1, h.2)

  -- also as a node's
  pub signed_grows : (keyring : Contents) (rid : Rid) (node : Nid) (commit : Oid) (refs : List Line) → Signed old keyring rid node commit refs → Signed new keyring rid node commit refs
  signed_grows keyring rid node commit refs h = record {
    closed = closed_grows grows (as_commit commit ∷ []) h.closed;
    found = h.found;
    are = record { has = sigrefs_grow commit h.found h.are.has; accepted = h.are.accepted };
    says = h.says;
    root = λ oid c. root_grows grows rid oid (h.root oid c);
  }
