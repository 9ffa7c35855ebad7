-- What an install makes of a store.
use Rattle.std.proofs.Common.{◌≡◌, ℕ, ◌+◌, ◌^◌, ◌<◌, ◌≤◌, List, [], ◌∷◌, ◌++◌, length, map, Option, Some, Result, Ok, Err, refl, sym, ap, subst, ◌∙◌, arith}
use Rattle.std.specs.Prelude.{Contains}
use Rattle.std.specs.Option.{option_or}
use Rattle.std.specs.BTreeMap.{BTreeMap, get}
use Rattle.std.proofs.lemmas.List.{length-map}
use Rattle.rad_base.specs.Order.{IsRising, commit_of, node_of, rid_cmp}
use Rattle.rad_base.specs.declared.names.Nid.{Nid}
use Rattle.rad_base.specs.declared.names.Oid.{Oid}
use Rattle.rad_base.specs.declared.names.Rid.{Rid}
use Rattle.rad_base.specs.declared.offer.Offer.{Offer}
use Rattle.rad_base.proofs.Lookups.{among_found, found_among, nodes_differ}
use Rattle.rad_base.proofs.Members.{map_from, map_has}
use Rattle.commit_graph.specs.Objects.{ObjectMap}
use Rattle.commit_graph.proofs.Repeats.{length_within}
use Rattle.announcements.specs.Held.{kept_in}
use Rattle.keyring.specs.Contents.{Contents}
use Rattle.ref_journal.specs.Holds.{Holds}
use Rattle.ref_journal.specs.declared.journal.Journal.{Journal}
use Rattle.repo_entries.specs.Items.{Item, refused}
use Rattle.repo_entries.specs.declared.entry.Entry.{Entry}
use Rattle.repo_entries.specs.declared.entry.Entry.TheVariants.{Install, Refused}
use Rattle.repo_entries.specs.declared.whole.Whole.{Whole}
use Rattle.repo_slice.specs.Good.{IsGood}
use Rattle.repo_slice.specs.Standing.{Replaces, replaced}
use Rattle.repo_slice.specs.Verdicts.{IsJudged, IsNextState}
use Rattle.repo_slice.specs.declared.keep_fault.KeepFault.{KeepFault}
use Rattle.repo_slice.specs.declared.keep_fault.KeepFault.TheVariants as keeps
use Rattle.repo_slice.specs.declared.scope.Scope.{Scope}
use Rattle.repo_slice.specs.declared.state.State.{State}
use Rattle.repo_slice.specs.declared.verdict.Judged.{Judged}
use Rattle.repo_slice.proofs.NextStates.{next_good}
use Rattle.repo_slice.proofs.OfferedAgain.{allowed_again}
use Rattle.repo_slice.proofs.Replacing.{replaced_replaces}
use Rattle.entry_bodies.specs.Bodies.{install_size, install_text}
use Rattle.legal_history.specs.Cores.{Core, refuses}
use Rattle.legal_history.specs.Durable.{durable_part}
use Rattle.legal_history.specs.Histories.{Lawful}
use Rattle.legal_history.specs.Replays.{replay, replayed_state}
use Rattle.legal_history.proofs.Durables.{durable_refused}
use Rattle.legal_history.proofs.GoodStandings.{legal_is_good}
use Rattle.object_store.specs.Bodies.{bodies_of, body_in_doubt}
use Rattle.object_store.specs.Installs.{HasFew, HasStagedInstall, IsVerdictAt}
use Rattle.object_store.specs.Repositories.{IsAdmitted, IsSame, StandsKnown, own_rid}
use Rattle.object_store.specs.Stores.{HasClaimed, IsInstall, IsVerdictBehind, Moves, StandsForSome, StandsFor, install_of}
use Rattle.object_store.specs.Writes.{HasWritten, IsWriteFault}
use Rattle.object_store.specs.declared.repository.Repository.{Repository}
use Rattle.object_store.specs.declared.store.Store.{Store}
use Rattle.object_store.proofs.Claiming.{each_still}
use Rattle.object_store.proofs.Installing.{few_in, stands_few, stands_install}
use Rattle.object_store.proofs.Keys.{claimant_stays, replay_install_other, replay_refused}
use Rattle.object_store.proofs.Moving.{claimed_is, nothing_done, stands_more, still}
use Rattle.object_store.proofs.Standing.{each_grown, named, stands_so}
use Rattle.object_store.proofs.Tables.{table_more}
use Rattle.object_store.proofs.Taking.{verdict_is}
use Rattle.object_store.proofs.Writing.{Prepares, not_wrote, there, wrote}

-- remotes are no more than those among which they are put
longer : (old advanced new : List (Nid × Oid)) → IsRising advanced → Replaces old advanced new → length advanced ≤ length new
longer old advanced new up r =
    let within = length_within (map node_of advanced) (map node_of new) (nodes_differ advanced up) has in
    omega (arith, within, length-map advanced node_of, length-map new node_of)
  where
    has : (node : Nid) → Contains (map node_of advanced) node → Contains (map node_of new) node
    has node c =
        let from = map_from node_of advanced node c in
        let commit = from.0.1 in
        let stored : commit_of advanced from.0.0 ≡ Some commit = among_found advanced from.0.0 commit up from.1 in
        let now : commit_of new from.0.0 ≡ Some commit = r.commits from.0.0 ∙ ap (λ (o : Option Oid). option_or o (commit_of old from.0.0)) stored in
        subst (λ (x : Nid). Contains (map node_of new) x) from.2 (map_has node_of new (from.0.0, commit) (found_among new from.0.0 commit now))

-- what is judged on a good state advances few remotes
advanced_few : (objects : ObjectMap) (keyring : Contents) (state : State) (offer : Offer) (scope : Scope) (judged : Judged) → IsRising state.remotes → IsRising judged.advanced
    → IsGood objects keyring state → IsJudged objects keyring state offer scope judged → length judged.advanced ≤ 1024
advanced_few objects keyring state offer scope judged rising up good is =
    let next : State = record { rid = state.rid; id = Some judged.next_id; remotes = replaced state.remotes judged.advanced } in
    let installed : IsNextState state judged next = record { rid = refl; id = refl; remotes = replaced_replaces state.remotes judged.advanced rising up } in
    let few = few_in objects keyring next (next_good objects keyring state offer scope judged next good is installed) in
    omega (arith, few, longer state.remotes judged.advanced next.remotes up installed.remotes)

-- a repository of a store has few remotes
pub few_at : {D : Type 0} (store : Store D) (rid : Rid) → StandsForSome store → HasFew (get rid_cmp store.repositories rid)
few_at store rid stands = stands_few (get rid_cmp store.repositories rid) rid store.keyring stands.0 stands.1.legal (stands.1.each rid)

-- a judging
pub record Judges {D : Type 0} (old mid : Store D) (rid : Rid) (offer : Offer) (scope : Scope) (verdict : Result Judged Whole) : Type 0 where
  pub journal : mid.journal ≡ old.journal
  pub keyring : mid.keyring ≡ old.keyring
  pub table : mid.table ≡ old.table
  pub entries : mid.history.entries.items ≡ old.history.entries.items
  pub others : (q : Rid) → (q ≡ rid → ⊥) → get rid_cmp mid.repositories q ≡ get rid_cmp old.repositories q
  pub same : get rid_cmp mid.repositories rid ≡ get rid_cmp old.repositories rid
  pub told : IsVerdictAt (get rid_cmp old.repositories rid) old.keyring offer scope verdict

-- a judging that memory refused
pub judged_nothing : {D : Type 0} (reads : D → Option (List ℕ)) (images : D → List ℕ → Type 0) (moment : D → ℕ) (since : D → ℕ → List ℕ → Type 0) (now : (disk : D) (image : List ℕ) → since disk (moment disk) image → images disk image) (old mid : Store D) (core : Core) (rid : Rid) → StandsFor old core.items
    → mid.keyring ≡ old.keyring → mid.table ≡ old.table → mid.history.entries.items ≡ old.history.entries.items → mid.journal ≡ old.journal
    → ((q : Rid) → (q ≡ rid → ⊥) → get rid_cmp mid.repositories q ≡ get rid_cmp old.repositories q) → get rid_cmp mid.repositories rid ≡ get rid_cmp old.repositories rid
    → Moves reads images moment since old mid core []
judged_nothing reads images moment since now old mid core rid s k t e j others same =
    nothing_done reads images moment since now old mid core s k (ap kept_in t) e j (each_still old.repositories mid.repositories rid core.items s.each others same)

module _ {D : Type 0} (reads : D → Option (List ℕ)) (images : D → List ℕ → Type 0) (moment : D → ℕ) (since : D → ℕ → List ℕ → Type 0) (now : (disk : D) (image : List ℕ) → since disk (moment disk) image → images disk image) (old mid : Store D) (rid : Rid) (offer : Offer) (scope : Scope) (verdict : Result Judged Whole) (caller : ℕ)
    (c : HasClaimed old rid caller) (g : Judges old mid rid offer scope verdict) where
  -- the verdict on what the entries make of the repository
  pub told_on : (items : List Item) → StandsFor old items → IsVerdictBehind old.keyring items rid offer scope verdict
  told_on items s = verdict_is (get rid_cmp old.repositories rid) rid old.keyring items offer scope verdict (there old rid caller c) s.legal (s.each rid) g.told

  -- a whole refusal
  pub judged_refused : (new : Store D) (core : Core) (why : Whole) → verdict ≡ Err why → StandsFor old core.items → new.journal ≡ mid.journal → new.keyring ≡ mid.keyring → new.table ≡ mid.table
      → new.repositories ≡ mid.repositories → new.history.entries.items ≡ mid.history.entries.items ++ Refused rid why caller ∷ []
      → IsInstall reads images moment since old new core rid offer scope caller (Ok (Err why))
  judged_refused new core why v s j k t r e =
      let item = refused rid why caller in
      let items = core.items ++ item ∷ [] in
      let lawful : Lawful old.keyring core.items item = claimed_is old core.items rid caller c s in
      let next : Core = record { items = items; doubt = core.doubt } in (
        subst (λ (x : Result Judged Whole). IsVerdictBehind old.keyring core.items rid offer scope x) v (told_on core.items s),
        record {
          next = next;
          runs = (next, (lawful, refl), refl);
          stands = stands_more old new core.items item s lawful (k ∙ g.keyring)
              (table_more (kept_in old.table) (kept_in new.table) core.items item refl (ap kept_in (t ∙ g.table)) s.table) (e ∙ ap (λ (l : List Entry). l ++ Refused rid why caller ∷ []) g.entries)
              (subst (λ (m : BTreeMap Rid Repository). (q : Rid) → StandsKnown (get rid_cmp m q) q items) (sym r)
              (λ q. stands_so (get rid_cmp mid.repositories q) q core.items items (replay_refused q rid core.items why caller) (claimant_stays q core.items item tt)
              (each_still old.repositories mid.repositories rid core.items s.each g.others g.same q)));
          disk = λ h. subst (λ (l : List Item). Holds reads images new.journal (bodies_of l) (body_in_doubt core.doubt)) (sym (durable_refused core.items rid why caller))
              (subst (λ (x : Journal D). Holds reads images x (bodies_of (durable_part core.items)) (body_in_doubt core.doubt)) (sym (j ∙ g.journal)) h);
          time = still reads images moment since now old new core s (k ∙ g.keyring) (refuses rid why caller ∷ []) (j ∙ g.journal);
        },
      )

module _ {D : Type 0} (reads : D → Option (List ℕ)) (images : D → List ℕ → Type 0) (moment : D → ℕ) (since : D → ℕ → List ℕ → Type 0) (now : (disk : D) (image : List ℕ) → since disk (moment disk) image → images disk image) (old mid : Store D) (rid : Rid) (offer : Offer) (scope : Scope) (judged : Judged) (caller : ℕ)
    (c : HasClaimed old rid caller) (g : Judges old mid rid offer scope (Ok judged)) (up : IsRising judged.advanced) where
  -- few remotes advance
  pub few_advance : StandsForSome old → length judged.advanced ≤ 1024
  few_advance stands =
      let items = stands.0 in
      let good = legal_is_good old.keyring rid items stands.1.legal in
      advanced_few (replay rid items).objects old.keyring (replayed_state rid items) offer scope judged good.rising up good.good
      (told_on reads images moment since now old mid rid offer scope (Ok judged) caller c g items stands.1)

  module _ (ready : Store D) (p : Prepares mid ready rid) where
    -- what is prepared is prepared from the start
    pub prepares : Prepares old ready rid
    prepares = record {
      journal = p.journal ∙ g.journal;
      keyring = p.keyring ∙ g.keyring;
      table = p.table ∙ g.table;
      entries = p.entries ∙ g.entries;
      others = λ q other. p.others q other ∙ g.others q other;
      same = subst (λ (r : Option Repository). IsSame r (get rid_cmp ready.repositories rid)) g.same p.same;
    }

    module _ (new : Store D) (core : Core) (s : StandsFor old core.items)
        (others : (q : Rid) → (q ≡ rid → ⊥) → get rid_cmp new.repositories q ≡ get rid_cmp ready.repositories q) (k : new.keyring ≡ ready.keyring) (t : new.table ≡ ready.table) (body : List ℕ) (entry : Entry)
        (b : body ≡ install_text rid judged.next_id judged.advanced)
        (en : entry ≡ Install (own_rid (get rid_cmp mid.repositories rid) rid) judged.next_id judged.advanced caller)
        (staged : HasStagedInstall judged.next_id judged.advanced (get rid_cmp mid.repositories rid) (get rid_cmp ready.repositories rid)) where
      own : Rid
      own = own_rid (get rid_cmp mid.repositories rid) rid

      entry_is : entry ≡ Install rid judged.next_id judged.advanced caller
      entry_is =
          en ∙ ap (λ (r : Option Repository). Install (own_rid r rid) judged.next_id judged.advanced caller) g.same
          ∙ ap (λ (x : Rid). Install x judged.next_id judged.advanced caller) (named (get rid_cmp old.repositories rid) rid core.items (s.each rid))

      verdict : IsVerdictBehind old.keyring core.items rid offer scope (Ok judged)
      verdict = told_on reads images moment since now old mid rid offer scope (Ok judged) caller c g core.items s

      lawful : Lawful old.keyring core.items (install_of rid caller judged)
      lawful = (
        record { rising = up; allowed = allowed_again (replay rid core.items).objects old.keyring (replayed_state rid core.items) offer scope judged verdict },
        claimed_is old core.items rid caller c s,
      )

      grown : IsAdmitted entry (get rid_cmp ready.repositories rid) (get rid_cmp new.repositories rid) → (q : Rid) → StandsKnown (get rid_cmp new.repositories q) q (core.items ++ install_of rid caller judged ∷ [])
      grown admitted =
          each_grown old.repositories new.repositories rid core.items (install_of rid caller judged) s.each (λ q other. others q other ∙ prepares.others q other)
          (λ q test. (replay_install_other q rid core.items judged.next_id judged.advanced caller test, claimant_stays q core.items (install_of rid caller judged) tt))
          (stands_install (get rid_cmp old.repositories rid) (get rid_cmp ready.repositories rid) (get rid_cmp new.repositories rid) rid rid core.items judged.next_id judged.advanced caller
          (there old rid caller c) (legal_is_good old.keyring rid core.items s.legal).rising up prepares.same
          (subst (λ (r : Option Repository). HasStagedInstall judged.next_id judged.advanced r (get rid_cmp ready.repositories rid)) g.same staged)
          (subst (λ (x : Entry). IsAdmitted x (get rid_cmp ready.repositories rid) (get rid_cmp new.repositories rid)) entry_is admitted) (s.each rid))

      -- an install that was written
      pub installed : HasWritten reads images moment since ready new rid entry body → IsInstall reads images moment since old new core rid offer scope caller (Ok (Ok judged))
      installed w =
          (verdict, wrote reads images moment since now old ready new core rid s prepares others k t caller (install_of rid caller judged) tt refl lawful body entry b entry_is w (grown w.admitted))

      -- an install that was not
      pub not_installed : (fault : KeepFault) → length body ≡ install_size judged.advanced → (fault ≡ keeps.Full → 2 ^ 40 < ready.journal.end + 10 + length body)
          → IsWriteFault reads images moment since ready new rid caller entry body fault
          → IsInstall reads images moment since old new core rid offer scope caller (Err fault)
      not_installed keeps.DiskFault size full w = (judged, verdict, not_wrote reads images moment since now old ready new core rid s prepares others k t caller (install_of rid caller judged) tt refl lawful body entry b entry_is keeps.DiskFault w)
      not_installed keeps.Full size full w = (
        judged,
        verdict,
        subst (λ (n : ℕ). 2 ^ 40 < old.journal.end + 10 + n) size
            (subst (λ (x : Journal D). 2 ^ 40 < x.end + 10 + length body) prepares.journal (full refl)),
        not_wrote reads images moment since now old ready new core rid s prepares others k t caller (install_of rid caller judged) tt refl lawful body entry b entry_is keeps.Full w,
      )
      not_installed (keeps.Changed change) size full w = absurd w
      not_installed keeps.NoMemory size full w = absurd w
