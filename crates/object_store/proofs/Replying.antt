-- The reply of a store is that on what its entries make of a repository.
use Rattle.std.proofs.Common.{◌≡◌, ℕ, List, Option, None, Some, inl, inr, refl, sym, ap, subst, ◌∙◌}
use Rattle.std.specs.BTreeMap.{get}
use Rattle.std.specs.Option.{option_and_then}
use Rattle.rad_base.specs.Order.{rid_cmp}
use Rattle.rad_base.specs.declared.names.Nid.{Nid}
use Rattle.rad_base.specs.declared.names.Oid.{Oid}
use Rattle.rad_base.specs.declared.names.Rid.{Rid}
use Rattle.rad_base.proofs.Options.{not_nothing, some_is}
use Rattle.commit_graph.specs.Objects.{ObjectMap}
use Rattle.keyring.specs.Contents.{Contents}
use Rattle.identity_doc.specs.IdentityChains.{HasIdentity}
use Rattle.repo_entries.specs.Items.{Item}
use Rattle.fetch_wire.specs.declared.request.Request.{Request}
use Rattle.fetch_serve.specs.Good.{IsGood as IsGoodShown}
use Rattle.fetch_serve.specs.Replies.{rid_of}
use Rattle.fetch_serve.specs.Showings.{showing}
use Rattle.repo_slice.specs.Good.{IsGood}
use Rattle.repo_slice.specs.Slices.{objects_of}
use Rattle.repo_slice.specs.declared.state.State.{State}
use Rattle.legal_history.specs.Histories.{Legal}
use Rattle.legal_history.specs.Replays.{AreShort, Standing, replay, replayed_state}
use Rattle.legal_history.proofs.GoodStandings.{legal_is_good}
use Rattle.legal_history.proofs.ShortContents.{legal_short}
use Rattle.object_store.specs.Installs.{HasFew}
use Rattle.object_store.specs.Replied.{IsGoodWith, IsReplyAbout, IsReplyBy, IsReplyOf, IsReplyOn, IsReplyWith, asked_in}
use Rattle.object_store.specs.Repositories.{StandsKnown}
use Rattle.object_store.specs.Stores.{StandsFor, StandsForSome}
use Rattle.object_store.specs.declared.repository.Repository.{Repository}
use Rattle.object_store.specs.declared.store.Store.{Store}
use Rattle.object_store.proofs.Installing.{stands_few}

-- what is good of a slice is good to be shown
good_with : (objects : ObjectMap) (keyring : Contents) (rid : Rid) (id : Option Oid) (remotes : List (Nid × Oid)) (request : Request)
    → IsGood objects keyring (record { rid = rid; id = id; remotes = remotes }) → AreShort objects → rid_of request ≡ Some rid → IsGoodWith objects id remotes keyring request
good_with objects keyring rid None remotes request good short asked = tt
good_with objects keyring rid (Some id) remotes request (inl none) short asked = absurd (not_nothing {x = id} refl none.0)
good_with objects keyring rid (Some id) remotes request (inr good) short asked = λ other is.
    let same : rid ≡ other = some_is rid other (sym asked ∙ is) in
    let here : good.0 ≡ id = sym (some_is id good.0 good.1) in
    let stands = good.2 in
    subst (λ (r : Rid). IsGoodShown (showing objects id remotes) keyring r) same (record {
      doc = stands.doc;
      identity = subst (λ (o : Oid). HasIdentity objects keyring rid o stands.doc) here stands.identity;
      sound = λ node commit among.
          let s = stands.sound node commit among in
          record { refs = s.refs; signed = s.signed; closed = s.closed };
      short = short;
    })

legal_good : (keyring : Contents) (rid : Rid) (items : List Item) (request : Request) → Legal keyring items → rid_of request ≡ Some rid
    → IsGoodWith (replay rid items).objects (replay rid items).id (replay rid items).remotes keyring request
legal_good keyring rid items request legal asked =
    good_with (replay rid items).objects keyring rid (replay rid items).id (replay rid items).remotes request (legal_is_good keyring rid items legal).good (legal_short keyring rid items legal) asked

-- the reply of a repository is that on what the entries make of it
reply_known : (o : Option Repository) (rid : Rid) (keyring : Contents) (items : List Item) (request : Request) (asker : Nid) (bytes : List ℕ) → Legal keyring items
    → rid_of request ≡ Some rid → StandsKnown o rid items → IsReplyOf o keyring request asker bytes
    → IsReplyOn (replay rid items).objects (replayed_state rid items) keyring request asker bytes
reply_known None rid keyring items request asker bytes legal asked stands is =
    let none : (replay rid items).id ≡ None = ap (λ (s : Standing). s.id) stands.0 in
    subst (λ (id : Option Oid). IsReplyWith (replay rid items).objects id (replay rid items).remotes keyring request asker bytes) (sym none) is
reply_known (Some r) rid keyring items request asker bytes legal asked stands is =
    subst (λ (objects : ObjectMap). IsReplyOn objects (replayed_state rid items) keyring request asker bytes) stands.objects
    (subst (λ (state : State). IsReplyOn (objects_of r.slice) state keyring request asker bytes) stands.state
    (is (subst (λ (state : State). IsGoodWith (objects_of r.slice) state.id state.remotes keyring request) (sym stands.state)
    (subst (λ (objects : ObjectMap). IsGoodWith objects (replayed_state rid items).id (replayed_state rid items).remotes keyring request) (sym stands.objects)
    (legal_good keyring rid items request legal asked)))))

-- by the repository that is asked for
module _ {D : Type 0} (store : Store D) (request : Request) where
  reply_asked : (asked : Option Rid) (items : List Item) (asker : Nid) (bytes : List ℕ) → rid_of request ≡ asked → StandsFor store items
      → IsReplyOf (option_and_then (λ (rid : Rid). get rid_cmp store.repositories rid) asked) store.keyring request asker bytes
      → IsReplyAbout asked items store.keyring request asker bytes
  reply_asked None items asker bytes is stands reply = reply
  reply_asked (Some rid) items asker bytes is stands reply = reply_known (get rid_cmp store.repositories rid) rid store.keyring items request asker bytes stands.legal is (stands.each rid) reply

  pub reply_by : (items : List Item) (asker : Nid) (bytes : List ℕ) → StandsFor store items → IsReplyOf (asked_in store.repositories request) store.keyring request asker bytes
      → IsReplyBy items store.keyring request asker bytes
  reply_by items asker bytes stands reply = reply_asked (rid_of request) items asker bytes refl stands reply

  few_asked : (asked : Option Rid) → StandsForSome store → HasFew (option_and_then (λ (rid : Rid). get rid_cmp store.repositories rid) asked)
  few_asked None stands = tt
  few_asked (Some rid) stands = stands_few (get rid_cmp store.repositories rid) rid store.keyring stands.0 stands.1.legal (stands.1.each rid)

  pub few_in_request : StandsForSome store → HasFew (asked_in store.repositories request)
  few_in_request stands = few_asked (rid_of request) stands
