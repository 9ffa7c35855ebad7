-- What stands of a good slice is not refused.
use Rattle.std.proofs.Common.{◌≡◌, Some, None, subst, inl, inr}
use Rattle.rad_base.specs.declared.names.Oid.{Oid}
use Rattle.rad_base.proofs.Options.{not_nothing, one_value}
use Rattle.commit_graph.specs.Objects.{ObjectMap}
use Rattle.commit_graph.specs.Histories.{InHistory}
use Rattle.keyring.specs.Contents.{Contents}
use Rattle.identity_doc.specs.declared.doc.Doc.{Doc}
use Rattle.identity_doc.specs.IdentityChains.{HasIdentity}
use Rattle.identity_doc.proofs.NotRefused.{not_refused}
use Rattle.repo_slice.specs.declared.state.State.{State}
use Rattle.repo_slice.specs.declared.stop.Stop.{Stop}
use Rattle.repo_slice.specs.declared.stop.Stop.TheVariants.{Get, Whole}
use Rattle.repo_entries.specs.declared.whole.Whole as entries
use Rattle.repo_entries.specs.declared.whole.Whole.TheVariants.{IdFault, IdForked, TooFewDelegates}
use Rattle.repo_slice.specs.Good.{IsGood}
use Rattle.repo_slice.specs.Parts.{IsIdRefusal, IsIdStop}
use Rattle.repo_slice.specs.Verdicts.{IsNewId}

module _ (m : ObjectMap) (keyring : Contents) (state : State) where
  -- the identity that stands has a document
  pub stands_document : (id : Oid) → IsGood m keyring state → state.id ≡ Some id → (doc : Doc) × HasIdentity m keyring state.rid id doc
  stands_document id (inl none) is = absurd (not_nothing is none.0)
  stands_document id (inr good) is =
      let same : good.0 ≡ id = one_value good.1 is in
      (good.2.doc, subst (λ (o : Oid). HasIdentity m keyring state.rid o good.2.doc) same good.2.identity)

  -- so it is refused by a fault alone
  pub stands_refused : (id offered : Oid) (stop : Stop) → IsGood m keyring state → state.id ≡ Some id → IsIdStop m keyring state.rid id stop
      → IsIdRefusal m keyring state offered stop
  stands_refused id offered (Whole IdForked) good is h = absurd h
  stands_refused id offered (Whole (IdFault why)) good is h =
      let d = stands_document id good is in
      absurd (h.1 (not_refused m keyring state.rid id d.0 why d.1 h.0))
  stands_refused id offered (Whole (TooFewDelegates have need)) good is h = absurd h
  stands_refused id offered (Get why) good is h = tt

  -- so no check refuses it
  pub stands_unrefused : (id : Oid) (why : entries.Whole) → IsGood m keyring state → state.id ≡ Some id → IsIdStop m keyring state.rid id (Whole why) → ⊥
  stands_unrefused id IdForked good is h = h
  stands_unrefused id (IdFault why) good is h =
      let d = stands_document id good is in
      h.1 (not_refused m keyring state.rid id d.0 why d.1 h.0)
  stands_unrefused id (TooFewDelegates have need) good is h = h

  -- another one is refused for what it is
  pub offered_refused : (id : Oid) (stop : Stop) → IsNewId m state id → IsIdStop m keyring state.rid id stop → IsIdRefusal m keyring state id stop
  offered_refused id (Whole IdForked) new h = absurd h
  offered_refused id (Whole (IdFault why)) new h = (new, h.0, h.1)
  offered_refused id (Whole (TooFewDelegates have need)) new h = absurd h
  offered_refused id (Get why) new h = tt

  -- what does not lie in the history of the one that stands is new
  pub new_id : (id stands : Oid) → state.id ≡ Some stands → (InHistory m id stands → ⊥) → IsNewId m state id
  new_id id stands is apart = λ other also h. apart (subst (λ (o : Oid). InHistory m id o) (one_value also is) h)

  -- where none stands, all are
  pub first_id : (id : Oid) → state.id ≡ None → IsNewId m state id
  first_id id none = λ other also h. not_nothing also none
