-- What a put makes of a store.
use Rattle.std.proofs.Common.{◌≡◌, ℕ, List, [], ◌∷◌, ◌++◌, Option, Result, Ok, Err, refl, ap, subst, ◌∙◌}
use Rattle.std.specs.Prelude.{IfErr, OnOk}
use Rattle.std.specs.BTreeMap.{get}
use Rattle.rad_base.specs.Order.{rid_cmp}
use Rattle.rad_base.specs.declared.names.Rid.{Rid}
use Rattle.commit_graph.specs.Objects.{Object}
use Rattle.repo_entries.specs.Batches.{IsBatch}
use Rattle.repo_entries.specs.Items.{names_of, put}
use Rattle.repo_entries.specs.declared.entry.Entry.{Entry}
use Rattle.repo_entries.specs.declared.entry.Entry.TheVariants.{Put}
use Rattle.repo_slice.specs.declared.keep_fault.KeepFault.{KeepFault}
use Rattle.entry_bodies.specs.Bodies.{put_text}
use Rattle.legal_history.specs.Cores.{Core}
use Rattle.legal_history.specs.Histories.{Lawful}
use Rattle.object_store.specs.Repositories.{HasStagedPut, IsAdmitted, StandsKnown, own_rid}
use Rattle.object_store.specs.Stores.{HasClaimed, IsPut, StandsFor}
use Rattle.object_store.specs.Writes.{HasWritten, IsWriteFault}
use Rattle.object_store.specs.declared.store.Store.{Store}
use Rattle.object_store.proofs.Keys.{claimant_stays, replay_put_other}
use Rattle.object_store.proofs.Moving.{claimed_is}
use Rattle.object_store.proofs.Standing.{each_grown, named, stands_put}
use Rattle.object_store.proofs.Writing.{Prepares, not_wrote, there, wrote}

module _ {D : Type 0} (reads : D → Option (List ℕ)) (images : D → List ℕ → Type 0) (moment : D → ℕ) (since : D → ℕ → List ℕ → Type 0) (now : (disk : D) (image : List ℕ) → since disk (moment disk) image → images disk image) (old mid new : Store D) (core : Core) (rid : Rid) (s : StandsFor old core.items) (p : Prepares old mid rid)
    (others : (q : Rid) → (q ≡ rid → ⊥) → get rid_cmp new.repositories q ≡ get rid_cmp mid.repositories q) (k : new.keyring ≡ mid.keyring) (t : new.table ≡ mid.table)
    (batch : List Object) (caller : ℕ) (body : List ℕ) (entry : Entry) (c : HasClaimed old rid caller) (is : IsBatch batch)
    (staged : HasStagedPut batch (get rid_cmp old.repositories rid) (get rid_cmp mid.repositories rid)) (b : body ≡ put_text rid batch)
    (en : entry ≡ Put (own_rid (get rid_cmp old.repositories rid) rid) (names_of batch) caller) where
  entry_is : entry ≡ Put rid (names_of batch) caller
  entry_is = en ∙ ap (λ (x : Rid). Put x (names_of batch) caller) (named (get rid_cmp old.repositories rid) rid core.items (s.each rid))

  lawful : Lawful old.keyring core.items (put rid batch caller)
  lawful = (is, claimed_is old core.items rid caller c s)

  grown : IsAdmitted entry (get rid_cmp mid.repositories rid) (get rid_cmp new.repositories rid) → (q : Rid) → StandsKnown (get rid_cmp new.repositories q) q (core.items ++ put rid batch caller ∷ [])
  grown admitted =
      each_grown old.repositories new.repositories rid core.items (put rid batch caller) s.each (λ q other. others q other ∙ p.others q other)
      (λ q test. (replay_put_other q rid core.items batch caller test, claimant_stays q core.items (put rid batch caller) tt))
      (stands_put (get rid_cmp old.repositories rid) (get rid_cmp mid.repositories rid) (get rid_cmp new.repositories rid) rid (own_rid (get rid_cmp old.repositories rid) rid) core.items batch caller
      (there old rid caller c) p.same staged
      (subst (λ (x : Entry). IsAdmitted x (get rid_cmp mid.repositories rid) (get rid_cmp new.repositories rid)) en admitted) (s.each rid))

  -- a put, by what its write answered
  pub put_by : (result : Result (Unit {0}) KeepFault) → OnOk result (HasWritten reads images moment since mid new rid entry body) → IfErr result (IsWriteFault reads images moment since mid new rid caller entry body)
      → IsPut reads images moment since old new core rid batch caller result
  put_by (Ok done) w f = wrote reads images moment since now old mid new core rid s p others k t caller (put rid batch caller) tt refl lawful body entry b entry_is w (grown w.admitted)
  put_by (Err fault) w f = not_wrote reads images moment since now old mid new core rid s p others k t caller (put rid batch caller) tt refl lawful body entry b entry_is fault f
