-- One entry more that was read.
use Rattle.std.proofs.Common.{◌≡◌, ℕ, ◌+◌, List, [], ◌∷◌, ◌++◌, length, map, Option, None, Some, true, Result, Ok, Err, refl, sym, ap, subst, ◌∙◌, arith, append_assoc}
use Rattle.std.specs.Option.{is_some}
use Rattle.std.specs.BTreeMap.{BTreeMap, get}
use Rattle.std.specs.List.{AllByRecursion}
use Rattle.std.proofs.lemmas.List.{length-map, map-append}
use Rattle.rad_base.specs.Order.{rid_cmp}
use Rattle.rad_base.specs.declared.names.Nid.{Nid}
use Rattle.rad_base.specs.declared.names.Oid.{Oid}
use Rattle.rad_base.specs.declared.names.Rid.{Rid}
use Rattle.rad_base.specs.declared.offer.Offer.{Offer}
use Rattle.rad_base.proofs.EachItem.{each_more}
use Rattle.commit_graph.specs.Objects.{Object, ObjectMap}
use Rattle.announcements.specs.Held.{kept_in}
use Rattle.announcements.specs.Tables.{IsTable}
use Rattle.keyring.specs.Contents.{Contents}
use Rattle.repo_entries.specs.Batches.{IsBatch}
use Rattle.repo_entries.specs.Items.{Item, claim, entry_of, heard, install, missed, names_of, put, refused}
use Rattle.repo_entries.specs.declared.entry.Entry.{Entry}
use Rattle.repo_entries.specs.declared.entry.Entry.TheVariants.{Install, Put}
use Rattle.repo_entries.specs.declared.whole.Whole.{Whole}
use Rattle.repo_slice.specs.Verdicts.{Allows, IsVerdict}
use Rattle.repo_slice.specs.declared.scope.Scope.{Scope}
use Rattle.repo_slice.specs.declared.scope.Scope.TheVariants.{All}
use Rattle.repo_slice.specs.declared.state.State.{State}
use Rattle.repo_slice.specs.declared.verdict.Judged.{Judged}
use Rattle.repo_slice.specs.Slices.{objects_of}
use Rattle.repo_slice.proofs.OneVerdict.{judged_or_refused, one_judged}
use Rattle.entry_bodies.specs.Bodies.{HasBody}
use Rattle.legal_history.specs.Histories.{Lawful, Legal, MayInstall}
use Rattle.legal_history.specs.Replays.{claimant, messages_in, replay, replayed_state}
use Rattle.legal_history.proofs.Durables.{legal_more}
use Rattle.legal_history.proofs.GoodStandings.{legal_is_good}
use Rattle.object_store.specs.Installs.{HasFew, HasStagedInstall, IsThere, IsVerdictAt, IsWholeAdvance}
use Rattle.object_store.specs.Opens.{HasReplayedSo, HasReplayed, IsIllegalAt, IsReplay}
use Rattle.object_store.specs.Repositories.{HasStagedPut, IsAdmitted, IsSame, StandsKnown, own_rid}
use Rattle.object_store.specs.declared.replayed.Replayed.{Replayed}
use Rattle.object_store.specs.declared.repository.Repository.{Repository}
use Rattle.object_store.proofs.Installing.{known_there, stands_few, stands_good, stands_install, stands_known}
use Rattle.object_store.proofs.Keys.{claimant_stays, replay_install_other, replay_put_other}
use Rattle.object_store.proofs.Standing.{each_grown, named, stands_put}
use Rattle.object_store.proofs.Tables.{table_more}

-- behind an entry that is not legal
illegal_more : (keyring : Contents) (n : ℕ) (items : List Item) (item : Item) → IsIllegalAt keyring n items → IsIllegalAt keyring n (items ++ item ∷ [])
illegal_more keyring n items item h = record {
  good = h.good;
  bad = h.bad;
  rest = h.rest ++ item ∷ [];
  all = ap (λ (l : List Item). l ++ item ∷ []) h.all ∙ append_assoc h.good (h.bad ∷ h.rest) (item ∷ []);
  legal = h.legal;
  unlawful = h.unlawful;
  count = h.count;
}

-- one that is illegal stays so
pub illegal_stays : (keyring : Contents) (read : Replayed) (illegal : Option ℕ) (items : List Item) (item : Item) → is_some illegal ≡ true → HasReplayedSo keyring read illegal items
    → HasReplayedSo keyring read illegal (items ++ item ∷ [])
illegal_stays keyring read None items item e h = absurd (cc e)
illegal_stays keyring read (Some n) items item e h = illegal_more keyring n items item h

-- while none is, all stand
pub all_stand : (keyring : Contents) (read : Replayed) (illegal : Option ℕ) (items : List Item) → illegal ≡ None → HasReplayedSo keyring read illegal items → HasReplayed keyring read items
all_stand keyring read None items e h = h
all_stand keyring read (Some n) items e h = absurd (cc e)

pub read_none : (keyring : Contents) (read : Replayed) (illegal : Option ℕ) (items : List Item) → illegal ≡ None → HasReplayed keyring read items → HasReplayedSo keyring read illegal items
read_none keyring read None items e h = h
read_none keyring read (Some n) items e h = absurd (cc e)

-- nobody claimed anything in what is read
unclaimed : (rid : Rid) (items : List Item) → AllByRecursion HasBody items → claimant rid items ≡ 0
unclaimed rid [] each = refl
unclaimed rid (claim q c ∷ items) each = absurd each.0
unclaimed rid (put q b c ∷ items) each = unclaimed rid items each.1
unclaimed rid (install q i r c ∷ items) each = unclaimed rid items each.1
unclaimed rid (heard m c ∷ items) each = unclaimed rid items each.1
unclaimed rid (missed q l c ∷ items) each = absurd each.0
unclaimed rid (refused q w c ∷ items) each = absurd each.0

-- an entry that is not lawful
pub took_illegal : (keyring : Contents) (old : Replayed) (items : List Item) (item : Item) (n : ℕ) → (Lawful keyring items item → ⊥) → n ≡ length old.history.entries.items
    → HasReplayed keyring old items → IsIllegalAt keyring (n + 1) (items ++ item ∷ [])
took_illegal keyring old items item n unlawful c h = record {
  good = items;
  bad = item;
  rest = [];
  all = refl;
  legal = h.legal;
  unlawful = unlawful;
  count = omega (arith, c, ap length h.entries, length-map items entry_of);
}

-- an entry that is lawful
pub took : (keyring : Contents) (old new : Replayed) (items : List Item) (item : Item) (entry : Entry) → HasBody item → Lawful keyring items item → entry ≡ entry_of item
    → new.history.entries.items ≡ old.history.entries.items ++ entry ∷ [] → ((q : Rid) → StandsKnown (get rid_cmp new.repositories q) q (items ++ item ∷ []))
    → IsTable (messages_in (items ++ item ∷ [])) (kept_in new.table) → new.illegal ≡ None
    → HasReplayed keyring old items → HasReplayedSo keyring new new.illegal (items ++ item ∷ [])
took keyring old new items item entry body lawful en e each table none h = read_none keyring new new.illegal (items ++ item ∷ []) none (record {
  bodies = each_more HasBody items item h.bodies body;
  entries = e ∙ ap (λ (l : List Entry). l ++ entry ∷ []) h.entries ∙ ap (λ (x : Entry). map entry_of items ++ x ∷ []) en ∙ sym (map-append entry_of items (item ∷ []));
  each = each;
  table = table;
  legal = legal_more keyring [] items item h.legal lawful;
})

module _ (keyring : Contents) (old new : Replayed) (k m : BTreeMap Rid Repository) (rid : Rid)
    (others1 : (q : Rid) → (q ≡ rid → ⊥) → get rid_cmp k q ≡ get rid_cmp old.repositories q) (known : IsThere rid (get rid_cmp old.repositories rid) (get rid_cmp k rid))
    (others2 : (q : Rid) → (q ≡ rid → ⊥) → get rid_cmp m q ≡ get rid_cmp k q) (same : IsSame (get rid_cmp k rid) (get rid_cmp m rid))
    (others3 : (q : Rid) → (q ≡ rid → ⊥) → get rid_cmp new.repositories q ≡ get rid_cmp m q) (items : List Item) (h : HasReplayed keyring old items)
    (entry : Entry) (e : new.history.entries.items ≡ old.history.entries.items ++ entry ∷ []) (t : new.table ≡ old.table) (none : new.illegal ≡ None)
    (admitted : IsAdmitted entry (get rid_cmp m rid) (get rid_cmp new.repositories rid)) where
  -- the repository was there, or made
  here : StandsKnown (get rid_cmp k rid) rid items
  here = stands_known (get rid_cmp old.repositories rid) (get rid_cmp k rid) rid items known (h.each rid)

  -- a put that is a batch stands
  pub took_put : (batch : List Object) → HasBody (put rid batch 0) → IsBatch batch → entry ≡ Put (own_rid (get rid_cmp k rid) rid) (names_of batch) 0
      → HasStagedPut batch (get rid_cmp k rid) (get rid_cmp m rid) → HasReplayedSo keyring new new.illegal (items ++ put rid batch 0 ∷ [])
  took_put batch body is en staged =
      took keyring old new items (put rid batch 0) entry body (is, sym (unclaimed rid items h.bodies))
      (en ∙ ap (λ (x : Rid). Put x (names_of batch) 0) (named (get rid_cmp k rid) rid items here)) e
      (each_grown old.repositories new.repositories rid items (put rid batch 0) h.each (λ q other. others3 q other ∙ others2 q other ∙ others1 q other)
      (λ q test. (replay_put_other q rid items batch 0 test, claimant_stays q items (put rid batch 0) tt))
      (stands_put (get rid_cmp k rid) (get rid_cmp m rid) (get rid_cmp new.repositories rid) rid (own_rid (get rid_cmp k rid) rid) items batch 0
      (known_there (get rid_cmp old.repositories rid) (get rid_cmp k rid) rid known) same staged
      (subst (λ (x : Entry). IsAdmitted x (get rid_cmp m rid) (get rid_cmp new.repositories rid)) en admitted) here))
      (table_more (kept_in old.table) (kept_in new.table) items (put rid batch 0) refl (ap kept_in t) h.table) none h

  -- an install that is allowed stands
  pub took_install : (id : Oid) (remotes : List (Nid × Oid)) → HasBody (install rid id remotes 0) → MayInstall keyring items rid id remotes
      → entry ≡ Install (own_rid (get rid_cmp k rid) rid) id remotes 0 → HasStagedInstall id remotes (get rid_cmp k rid) (get rid_cmp m rid)
      → HasReplayedSo keyring new new.illegal (items ++ install rid id remotes 0 ∷ [])
  took_install id remotes body may en staged =
      took keyring old new items (install rid id remotes 0) entry body (may, sym (unclaimed rid items h.bodies))
      (en ∙ ap (λ (x : Rid). Install x id remotes 0) (named (get rid_cmp k rid) rid items here)) e
      (each_grown old.repositories new.repositories rid items (install rid id remotes 0) h.each (λ q other. others3 q other ∙ others2 q other ∙ others1 q other)
      (λ q test. (replay_install_other q rid items id remotes 0 test, claimant_stays q items (install rid id remotes 0) tt))
      (stands_install (get rid_cmp k rid) (get rid_cmp m rid) (get rid_cmp new.repositories rid) rid (own_rid (get rid_cmp k rid) rid) items id remotes 0
      (known_there (get rid_cmp old.repositories rid) (get rid_cmp k rid) rid known) (legal_is_good keyring rid items h.legal).rising body.0.rising same staged
      (subst (λ (x : Entry). IsAdmitted x (get rid_cmp m rid) (get rid_cmp new.repositories rid)) en admitted) here))
      (table_more (kept_in old.table) (kept_in new.table) items (install rid id remotes 0) refl (ap kept_in t) h.table) none h

-- the verdict on what stands
pub verdict_is : (o : Option Repository) (rid : Rid) (keyring : Contents) (items : List Item) (offer : Offer) (scope : Scope) (verdict : Result Judged Whole) → (o ≡ None → ⊥) → Legal keyring items → StandsKnown o rid items
    → IsVerdictAt o keyring offer scope verdict → IsVerdict (replay rid items).objects keyring (replayed_state rid items) offer scope verdict
verdict_is None rid keyring items offer scope verdict there legal h told = absurd (there refl)
verdict_is (Some r) rid keyring items offer scope verdict there legal h told =
    subst (λ (objects : ObjectMap). IsVerdict objects keyring (replayed_state rid items) offer scope verdict) h.objects
    (subst (λ (state : State). IsVerdict (objects_of r.slice) keyring state offer scope verdict) h.state (told (stands_good r rid keyring items legal h)))

module _ (keyring : Contents) (rid : Rid) (items : List Item) (id : Oid) (remotes : List (Nid × Oid)) where
  -- what is judged so is allowed
  allowed_by : (verdict : Result Judged Whole) → IsVerdict (replay rid items).objects keyring (replayed_state rid items) (record { id = id; remotes = remotes }) All verdict
      → IsWholeAdvance remotes verdict → Allows (replay rid items).objects keyring (replayed_state rid items) id remotes
  allowed_by (Ok judged) is advance = record { judged = judged; is = is; fresh = advance.0; same = advance.1 }
  allowed_by (Err whole) is advance = absurd advance

  -- and nothing else is
  advance_by : (verdict : Result Judged Whole) → IsVerdict (replay rid items).objects keyring (replayed_state rid items) (record { id = id; remotes = remotes }) All verdict
      → Allows (replay rid items).objects keyring (replayed_state rid items) id remotes → IsWholeAdvance remotes verdict
  advance_by (Ok judged) is allows =
      let one : allows.judged ≡ judged =
      one_judged (replay rid items).objects keyring (replayed_state rid items) (record { id = id; remotes = remotes }) All allows.judged judged allows.is is in
      subst (λ (j : Judged). IsWholeAdvance remotes (Ok j)) one (allows.fresh, allows.same)
  advance_by (Err whole) is allows =
      absurd (judged_or_refused (replay rid items).objects keyring (replayed_state rid items) (record { id = id; remotes = remotes }) All allows.judged whole allows.is is)

  -- by what was told of the repository
  pub may_install : (a b : Option Repository) (verdict : Result Judged Whole) → Legal keyring items → StandsKnown a rid items → IsThere rid a b → IsVerdictAt b keyring (record { id = id; remotes = remotes }) All verdict
      → HasBody (install rid id remotes 0) → IsWholeAdvance remotes verdict → MayInstall keyring items rid id remotes
  may_install a b verdict legal h known told body advance = record {
    rising = body.0.rising;
    allowed = allowed_by verdict (verdict_is b rid keyring items (record { id = id; remotes = remotes }) All verdict (known_there a b rid known) legal (stands_known a b rid items known h) told) advance;
  }

  pub may_not_install : (a b : Option Repository) (verdict : Result Judged Whole) → Legal keyring items → StandsKnown a rid items → IsThere rid a b → IsVerdictAt b keyring (record { id = id; remotes = remotes }) All verdict
      → (IsWholeAdvance remotes verdict → ⊥) → Lawful keyring items (install rid id remotes 0) → ⊥
  may_not_install a b verdict legal h known told none lawful =
      none (advance_by verdict (verdict_is b rid keyring items (record { id = id; remotes = remotes }) All verdict (known_there a b rid known) legal (stands_known a b rid items known h) told)
      lawful.0.allowed)

-- the repository has few remotes
pub replay_few : (keyring : Contents) (read : Replayed) (k : BTreeMap Rid Repository) (rid : Rid) → IsReplay keyring read → read.illegal ≡ None
    → IsThere rid (get rid_cmp read.repositories rid) (get rid_cmp k rid) → HasFew (get rid_cmp k rid)
replay_few keyring read k rid replayed none known =
    let h = all_stand keyring read read.illegal replayed.0 none replayed.1 in
    stands_few (get rid_cmp k rid) rid keyring replayed.0 h.legal
    (stands_known (get rid_cmp read.repositories rid) (get rid_cmp k rid) rid replayed.0 known (h.each rid))
