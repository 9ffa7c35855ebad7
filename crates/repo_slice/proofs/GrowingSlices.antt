-- Good slices stay good as objects are added.
use Rattle.std.proofs.Common.{inl, inr}
use Rattle.rad_base.specs.declared.names.Nid.{Nid}
use Rattle.rad_base.specs.declared.names.Oid.{Oid}
use Rattle.rad_base.specs.declared.names.Rid.{Rid}
use Rattle.commit_graph.specs.Objects.{ObjectMap}
use Rattle.keyring.specs.Contents.{Contents}
use Rattle.repo_slice.specs.declared.state.State.{State}
use Rattle.repo_slice.specs.Good.{IsGood, IsSound, Stands, line_roots}
use Rattle.commit_graph.specs.Objects.{Grows}
use Rattle.commit_graph.proofs.Growing.{closed_grows}
use Rattle.identity_doc.proofs.Growing.{identity_grows}
use Rattle.signed_refs.proofs.Growing.{signed_grows}

module _ {old new : ObjectMap} (grows : Grows old new) where
  sound_grows : (keyring : Contents) (rid : Rid) (node : Nid) (commit : Oid) → IsSound old keyring rid node commit → IsSound new keyring rid node commit
  sound_grows keyring rid node commit h =
      record { refs = h.refs; signed = signed_grows grows keyring rid node commit h.refs h.signed; closed = closed_grows grows (line_roots h.refs) h.closed }

  stands_grows : (keyring : Contents) (state : State) (id : Oid) → Stands old keyring state id → Stands new keyring state id
  stands_grows keyring state id h = record {
    doc = h.doc;
    identity = identity_grows grows keyring state.rid id h.doc h.identity;
    sound = λ node commit c. sound_grows keyring state.rid node commit (h.sound node commit c);
    enough = h.enough;
    few = h.few;
  }

  -- a good slice stays good
  pub good_grows : (keyring : Contents) (state : State) → IsGood old keyring state → IsGood new keyring state
  good_grows keyring state (inl none) = inl none
  good_grows keyring state (inr h) = inr (h.0, h.1, stands_grows keyring state h.0 h.2)
