-- What the calls of a store for a repository make of it.
use Rattle.std.proofs.Common.{◌≡◌, ◌⊎◌, ◌||◌, ℕ, ◌+◌, ◌≤◌, ◌<◌, ◌^◌, Bool, true, false, if◌then◌else◌, eqb, List, [], ◌∷◌, Option, None, Some, Result, Ok, Err, inl, inr, refl, sym, ap, subst, ◌∙◌, arith}
use Rattle.std.specs.Prelude.{Contains, IsErrOf, IfErr, IfOk, IsSome, OnErr, OnOk, IsTrue, ◌↔◌}
use Rattle.std.specs.Option.{ForSome}
use Rattle.rad_base.specs.declared.memory.NoMemory.{NoMemory}
use Rattle.rad_base.specs.declared.names.Nid.{Nid}
use Rattle.canonical_head.specs.declared.answer.Head.{Head}
use Rattle.std.proofs.lemmas.Bool.{eqb-true}
use Rattle.std.proofs.lemmas.Bool.Decides.{eqb_tells}
use Rattle.rad_base.specs.declared.names.Oid.{Oid}
use Rattle.rad_base.specs.declared.names.Rid.{Rid}
use Rattle.rad_base.specs.declared.offer.Offer.{Offer}
use Rattle.rad_base.proofs.Options.{some_is}
use Rattle.commit_graph.specs.Objects.{Object, ObjectMap}
use Rattle.keyring.specs.Contents.{Contents}
use Rattle.ref_journal.specs.declared.journal.Journal.{Journal}
use Rattle.repo_entries.specs.Items.{Item, left_of, missed, put, refused}
use Rattle.repo_entries.specs.declared.whole.Whole.{Whole}
use Rattle.repo_entries.specs.declared.entry.Left.{Left}
use Rattle.repo_entries.specs.declared.entry.Left.TheVariants as lefts
use Rattle.repo_slice.specs.Heads.{IsHeadOf}
use Rattle.repo_slice.specs.Wanted.{IsWantedList}
use Rattle.repo_slice.specs.declared.wanting.Stage.{Stage}
use Rattle.repo_slice.specs.Keeps.{Held, HeldBehind, IsNamedIn, IsNoChange, IsVerdictOn, IsWantedOn}
use Rattle.repo_slice.specs.Verdicts.{IsVerdict}
use Rattle.repo_slice.specs.declared.keep_fault.KeepFault.{KeepFault}
use Rattle.repo_slice.specs.declared.keep_fault.KeepFault.TheVariants as fault
use Rattle.repo_slice.specs.declared.scope.Scope.{Scope}
use Rattle.repo_slice.specs.declared.verdict.Judged.{Judged}
use Rattle.repo_slice.proofs.Replacing.{replaced_replaces}
use Rattle.entry_bodies.specs.Bodies.{put_size}
use Rattle.legal_history.specs.Cores.{Core, claims, enters, mends, refuses}
use Rattle.legal_history.specs.Replays.{after_install, replay, replayed_state}
use Rattle.legal_history.proofs.GoodStandings.{legal_is_good}
use Rattle.object_store.specs.Held.{claimant_of, held_at, held_in, held_standing}
use Rattle.object_store.specs.Stores.{EndsBehind, HasClaimed, IsClaiming, IsInstall, IsPut, IsVerdictBehind, JournalHadRoom, KeepsClaims, StandsFor, StandsForSome, install_of}
use Rattle.object_store.specs.declared.faults.ClaimFault.{ClaimFault}
use Rattle.object_store.specs.declared.faults.ClaimFault.TheVariants as claimed
use Rattle.object_store.specs.declared.store.Store.{Store}
use Rattle.object_store.proofs.Holding.{claimant_is, held_is}
use Rattle.object_store.proofs.Keys.{is_itself}
use Rattle.store_keep.specs.Calls.{Adds, Installs, IsHeadFor, IsVerdictFor, Puts}
use Rattle.store_keep.specs.Kept.{constants_at, may_call}
use Rattle.store_keep.proofs.Adding.{adds_behind, adds_missed, adds_moved, missed_by, nothing_held, stops_behind, stops_for_memory, stops_full, stops_missed, stops_nothing}

-- a caller that may call for what somebody claimed is that one
may_itself : (caller n : ℕ) → 1 ≤ n → IsTrue (may_call caller n) → n ≡ caller
may_itself caller n some may = by_zero (eqb_tells n 0)
  where
    or-second : (a b : Bool) → a ≡ false → (a || b) ≡ true → b ≡ true
    or-second true b f e = absurd (cc f)
    or-second false b f e = e

    by_zero : ((eqb n 0 ≡ true) × (n ≡ 0)) ⊎ ((eqb n 0 ≡ false) × (n ≡ 0 → ⊥)) → n ≡ caller
    by_zero (inl zero) = absurd (omega (arith, zero.1, some))
    by_zero (inr other) = eqb-true n caller (or-second (eqb n 0) (eqb n caller) other.0 may)

module _ {D : Type 0} (reads : D → Option (List ℕ)) (images : D → List ℕ → Type 0) (moment : D → ℕ) (since : D → ℕ → List ℕ → Type 0) (rid : Rid) (caller : ℕ) where
  -- ---- claims

  pub claim_adds : (old new : Store D) (result : Result (Unit {0}) ClaimFault) → new.keyring ≡ old.keyring → new.journal ≡ old.journal → StandsForSome old
      → ((core : Core) → StandsFor old core.items → IsClaiming reads images moment since old new core rid caller result) → Adds reads images moment since rid caller old new []
  claim_adds old new (Ok done) k j stands each =
      adds_moved reads images moment since rid caller old new k (claims rid caller ∷ []) ((refl, refl), tt) (inl (refl, ap (λ (x : Journal D). x.end) j)) stands each
  claim_adds old new (Err (claimed.Claimed by)) k j stands each =
      adds_moved reads images moment since rid caller old new k [] tt (inl (refl, ap (λ (x : Journal D). x.end) j)) stands (λ core s. (each core s).0)
  claim_adds old new (Err claimed.NoMemory) k j stands each =
      adds_moved reads images moment since rid caller old new k [] tt (inl (refl, ap (λ (x : Journal D). x.end) j)) stands each

  -- what is refused as it is claimed, is claimed by the caller
  pub claimed_itself : (old new : Store D) (by : ℕ) → 1 ≤ caller → StandsForSome old → IsTrue (may_call caller (claimant_of old rid)) → KeepsClaims old new
      → ((core : Core) → StandsFor old core.items → IsClaiming reads images moment since old new core rid caller (Err (claimed.Claimed by))) → HasClaimed new rid caller
  claimed_itself old new by some stands may keeps each =
      let told = each (record { items = stands.0; doubt = None }) stands.1 in
      let is : claimant_of old rid ≡ by = claimant_is old rid stands.0 stands.1 ∙ told.1 in
      let own : by ≡ caller = may_itself caller by told.2 (subst (λ (n : ℕ). IsTrue (may_call caller n)) is may) in
      keeps rid caller (record { claimant = is ∙ own; some = some })

  pub stands_then : (old new : Store D) (added : List Item) → StandsForSome old → Adds reads images moment since rid caller old new added → StandsForSome new
  stands_then old new added stands a =
      let next = a.replays stands.0 stands.1 in
      (next.0, next.1)

  -- ---- what is read behind a claim

  pub names_behind : (old mid : Store D) (result : Result (List Oid) NoMemory) → StandsForSome old → Adds reads images moment since rid caller old mid [] → StandsForSome mid
      → ((items : List Item) → StandsFor mid items → IfOk result (λ oids. (oid : Oid) → Contains oids oid ↔ IsNamedIn (held_in rid items) oid))
      → IfOk result (λ oids. (oid : Oid) → Contains oids oid ↔ IsNamedIn (held_at old rid) oid)
  names_behind old mid result stands a there names =
      subst (λ (held : Held). IfOk result (λ oids. (oid : Oid) → Contains oids oid ↔ IsNamedIn held oid))
      (sym (held_is mid rid there.0 there.1) ∙ nothing_held reads images moment since rid caller old mid stands a) (names there.0 there.1)

  pub head_behind : (old mid : Store D) (result : Result Head KeepFault) → StandsForSome old → Adds reads images moment since rid caller old mid [] → StandsForSome mid
      → ((items : List Item) → StandsFor mid items → IfOk result (λ head. IsHeadOf (replay rid items).objects mid.keyring (replayed_state rid items) (Some head)))
      → IfOk result (IsHeadFor old rid)
  head_behind old mid (Err why) stands a there told = tt
  head_behind old mid (Ok head) stands a there told =
      subst (λ (held : Held). ForSome held.objects (λ objects. IsHeadOf objects old.keyring held.state (Some head)))
      (sym (held_is mid rid there.0 there.1) ∙ nothing_held reads images moment since rid caller old mid stands a)
      (λ objects e. subst (λ (m : ObjectMap). IsHeadOf m old.keyring (replayed_state rid there.0) (Some head)) (some_is (replay rid there.0).objects objects e)
      (subst (λ (keyring : Contents). IsHeadOf (replay rid there.0).objects keyring (replayed_state rid there.0) (Some head)) a.keyring (told there.0 there.1)))

  pub wanted_behind : (old mid : Store D) (offer : Offer) (scope : Scope) (stage : Stage) (result : Result (List Nid) KeepFault) → StandsForSome old → Adds reads images moment since rid caller old mid []
      → StandsForSome mid
      → ((items : List Item) → StandsFor mid items → IfOk result (IsWantedList (replay rid items).objects mid.keyring (replayed_state rid items) offer scope stage))
      → IfOk result (IsWantedOn (constants_at old caller) (held_at old rid) offer scope stage)
  wanted_behind old mid offer scope stage (Err why) stands a there told = tt
  wanted_behind old mid offer scope stage (Ok nodes) stands a there told =
      subst (λ (held : Held). IsWantedOn (constants_at old caller) held offer scope stage nodes)
      (sym (held_is mid rid there.0 there.1) ∙ nothing_held reads images moment since rid caller old mid stands a)
      (λ objects e. subst (λ (m : ObjectMap). IsWantedList m old.keyring (replayed_state rid there.0) offer scope stage nodes) (some_is (replay rid there.0).objects objects e)
      (subst (λ (keyring : Contents). IsWantedList (replay rid there.0).objects keyring (replayed_state rid there.0) offer scope stage nodes) a.keyring (told there.0 there.1)))

  -- the identity is there behind a claim
  pub identity_behind : (old mid : Store D) → StandsForSome old → Adds reads images moment since rid caller old mid [] → IsSome (held_at old rid).state.id → IsSome (held_at mid rid).state.id
  identity_behind old mid stands a some = subst (λ (held : Held). IsSome held.state.id) (sym (nothing_held reads images moment since rid caller old mid stands a)) some

  -- ---- puts

  not_ok : {X E : Type 0} (x : X) (e : E) → Ok x ≡ Err e → ⊥
  not_ok x e is = cc is

  pub puts_by : (batch : List Object) (old new : Store D) (result : Result (Unit {0}) KeepFault) → new.keyring ≡ old.keyring → StandsForSome old
      → ((core : Core) → StandsFor old core.items → IsPut reads images moment since old new core rid batch caller result)
      → (IsErrOf result fault.Full → 2 ^ 40 < old.journal.end + 10 + put_size batch)
      → (2 ^ 40 < old.journal.end + 10 + put_size batch → IsErrOf result fault.Full ⊎ IsErrOf result fault.NoMemory)
      → OnOk result (new.journal.end ≡ old.journal.end + 9 + put_size batch) → OnErr result (new.journal.end ≡ old.journal.end)
      → Puts reads images moment since rid caller batch old new result
  puts_by batch old new (Ok done) k stands each full only end stays =
      let fits : 2 ^ 40 < old.journal.end + 10 + put_size batch → ⊥ = λ more. never (Ok done) refl (only more) in
      let room : new.journal.end < 2 ^ 40 = omega (arith, fits, end) in
      (adds_moved reads images moment since rid caller old new k (mends ∷ enters (put rid batch caller) ∷ []) (tt, (refl, tt)) (inr room) stands each, room)
    where
      never : (r : Result (Unit {0}) KeepFault) → r ≡ Ok done → IsErrOf r fault.Full ⊎ IsErrOf r fault.NoMemory → ⊥
      never r is (inl e) = not_ok done fault.Full (sym is ∙ e)
      never r is (inr e) = not_ok done fault.NoMemory (sym is ∙ e)
  puts_by batch old new (Err fault.DiskFault) k stands each full only end stays =
      let item = put rid batch caller in
      let m = adds_missed reads images moment since rid caller old new k (λ (x : Item). x ≡ item) stays stands (λ core s.
      missed_by reads images moment since rid caller old new k (λ (x : Item). x ≡ item) core item refl refl s (each core s)) in
      stops_missed reads images moment since rid caller old new item m.0 stands (named m.0 m.1) m.2
    where
      named : (left : Left) → (left ≡ lefts.Nothing) ⊎ ((x : Item) × (x ≡ put rid batch caller) × (left ≡ left_of x)) → (left ≡ lefts.Nothing) ⊎ (left ≡ left_of (put rid batch caller))
      named left (inl none) = inl none
      named left (inr is) = inr (is.2 ∙ ap left_of is.1)
  puts_by batch old new (Err fault.Full) k stands each full only end stays =
      stops_full reads images moment since rid caller old new (put rid batch caller) stands (adds_moved reads images moment since rid caller old new k [] tt (inl (refl, stays)) stands each)
      (λ fits. let more = full refl in omega (arith, more, fits, stays))
  puts_by batch old new (Err (fault.Changed change)) k stands each full only end stays = absurd (each (record { items = stands.0; doubt = None }) stands.1)
  puts_by batch old new (Err fault.NoMemory) k stands each full only end stays =
      stops_for_memory reads images moment since rid caller old new (put rid batch caller ∷ []) stands (adds_moved reads images moment since rid caller old new k [] tt (inl (refl, stays)) stands each)

  pub puts_behind : (batch : List Object) (old mid new : Store D) (result : Result (Unit {0}) KeepFault) → StandsForSome old → Adds reads images moment since rid caller old mid []
      → Puts reads images moment since rid caller batch mid new result → Puts reads images moment since rid caller batch old new result
  puts_behind batch old mid new (Ok done) stands a p = (adds_behind reads images moment since rid caller old mid new (put rid batch caller ∷ []) a p.0, p.1)
  puts_behind batch old mid new (Err why) stands a p = stops_behind reads images moment since rid caller old mid new (put rid batch caller ∷ []) why stands a p

  pub put_unchanged : (batch : List Object) (old new : Store D) (result : Result (Unit {0}) KeepFault) → StandsForSome old
      → ((core : Core) → StandsFor old core.items → IsPut reads images moment since old new core rid batch caller result) → IfErr result IsNoChange
  put_unchanged batch old new (Ok done) stands each = tt
  put_unchanged batch old new (Err fault.DiskFault) stands each = tt
  put_unchanged batch old new (Err fault.Full) stands each = tt
  put_unchanged batch old new (Err (fault.Changed change)) stands each = each (record { items = stands.0; doubt = None }) stands.1
  put_unchanged batch old new (Err fault.NoMemory) stands each = tt

  pub puts_stand : (batch : List Object) (old new : Store D) (result : Result (Unit {0}) KeepFault) → StandsForSome old → Puts reads images moment since rid caller batch old new result
      → StandsForSome new
  puts_stand batch old new (Ok done) stands p = stands_then old new (put rid batch caller ∷ []) stands p.0
  puts_stand batch old new (Err why) stands p = stands_then old new p.history stands p.adds

  -- ---- installs

  module _ (offer : Offer) (scope : Scope) where
    -- a verdict on what the entries make is one on what the store has
    verdict_for : (store : Store D) (items : List Item) (verdict : Result Judged Whole) → StandsFor store items → IsVerdictBehind store.keyring items rid offer scope verdict
        → IsVerdictFor store rid caller offer scope verdict
    verdict_for store items verdict s told =
        subst (λ (held : Held). IsVerdictOn (constants_at store caller) held offer scope verdict) (sym (held_is store rid items s))
        (λ objects e. subst (λ (m : ObjectMap). IsVerdict m store.keyring (held_in rid items).state offer scope verdict) (some_is (replay rid items).objects objects e) told)

    -- what stands behind an install
    installed_held : (old new : Store D) (judged : Judged) → (stands : StandsForSome old) → ((core : Core) → StandsFor old core.items → IsInstall reads images moment since old new core rid offer scope caller (Ok (Ok judged)))
        → Adds reads images moment since rid caller old new (install_of rid caller judged ∷ []) → HeldBehind (held_at old rid) (Ok judged) (held_at new rid)
    installed_held old new judged stands each a =
        let items = stands.0 in
        let told = each (record { items = items; doubt = None }) stands.1 in
        let rising = (legal_is_good old.keyring rid items stands.1.legal).rising in
        let up = told.1.runs.2.1.2.0.rising in
        let next = a.replays items stands.1 in
        let behind = held_is new rid next.0 next.1 ∙ ap (held_standing rid) (next.2 ∙ ap (λ (b : Bool). if b then after_install judged.next_id judged.advanced (replay rid items) else replay rid items) (is_itself rid)) in
        let after : HeldBehind (held_in rid items) (Ok judged) (held_standing rid (after_install judged.next_id judged.advanced (replay rid items))) =
        (record { rid = refl; id = refl; remotes = replaced_replaces (replay rid items).remotes judged.advanced rising up }, λ oid. refl) in
        subst (λ (held : Held). HeldBehind held (Ok judged) (held_at new rid)) (sym (held_is old rid items stands.1))
        (subst (λ (held : Held). HeldBehind (held_in rid items) (Ok judged) held) (sym behind) after)

    refused_held : (old new : Store D) (why : Whole) → (stands : StandsForSome old) → Adds reads images moment since rid caller old new (refused rid why caller ∷ []) → held_at new rid ≡ held_at old rid
    refused_held old new why stands a =
        let next = a.replays stands.0 stands.1 in
        held_is new rid next.0 next.1 ∙ ap (held_standing rid) next.2 ∙ sym (held_is old rid stands.0 stands.1)

    -- the entry of some verdict
    abbrev IsVerdictItem : Store D → Item → Type 0
    IsVerdictItem store item = (judged : Judged) × IsVerdictFor store rid caller offer scope (Ok judged) × (item ≡ install_of rid caller judged)

    pub installs_by : (old new : Store D) (result : Result (Result Judged Whole) KeepFault) → new.keyring ≡ old.keyring → StandsForSome old
        → ((core : Core) → StandsFor old core.items → IsInstall reads images moment since old new core rid offer scope caller result)
        → IfOk result (JournalHadRoom old.journal.end rid caller) → EndsBehind old.journal.end new.journal.end result → Installs reads images moment since rid caller offer scope old new result
    installs_by old new (Ok (Ok judged)) k stands each room end =
        let fits : new.journal.end < 2 ^ 40 = omega (arith, room, end) in
        let adds = adds_moved reads images moment since rid caller old new k (mends ∷ enters (install_of rid caller judged) ∷ []) (tt, (refl, tt)) (inr fits) stands (λ core s. (each core s).1) in (
          verdict_for old stands.0 (Ok judged) stands.1 (each (record { items = stands.0; doubt = None }) stands.1).0,
          record { adds = adds; behind = installed_held old new judged stands each adds; room = fits },
        )
    installs_by old new (Ok (Err why)) k stands each room end =
        let adds = adds_moved reads images moment since rid caller old new k (refuses rid why caller ∷ []) (tt, tt) (inl (refl, end)) stands (λ core s. (each core s).1) in (
          verdict_for old stands.0 (Err why) stands.1 (each (record { items = stands.0; doubt = None }) stands.1).0,
          record { adds = adds; behind = refused_held old new why stands adds; room = tt },
        )
    installs_by old new (Err fault.DiskFault) k stands each room end =
        let m = adds_missed reads images moment since rid caller old new k (IsVerdictItem old) end stands (λ core s.
        let told = each core s in
        missed_by reads images moment since rid caller old new k (IsVerdictItem old) core (install_of rid caller told.0) refl (told.0, verdict_for old core.items (Ok told.0) s told.1, refl) s told.2) in
        by_name m.0 m.2 m.1
      where
        by_name : (left : Left) → Adds reads images moment since rid caller old new (missed (Some rid) left caller ∷ []) → (left ≡ lefts.Nothing) ⊎ ((item : Item) × IsVerdictItem old item × (left ≡ left_of item))
            → Installs reads images moment since rid caller offer scope old new (Err fault.DiskFault)
        by_name left adds (inl none) = inl (stops_nothing reads images moment since rid caller old new [] left stands none adds)
        by_name left adds (inr (item, (judged, verdict, is), named)) =
            inr (judged, verdict, stops_missed reads images moment since rid caller old new (install_of rid caller judged) left stands (inr (named ∙ ap left_of is)) adds)
    installs_by old new (Err fault.Full) k stands each room end =
        let told = each (record { items = stands.0; doubt = None }) stands.1 in
        let adds = adds_moved reads images moment since rid caller old new k [] tt (inl (refl, end)) stands (λ core s. (each core s).3) in
        inr (
          told.0,
          verdict_for old stands.0 (Ok told.0) stands.1 told.1,
          stops_full reads images moment since rid caller old new (install_of rid caller told.0) stands adds (λ fits. let lacks = told.2 in omega (arith, lacks, fits, end)),
        )
    installs_by old new (Err (fault.Changed change)) k stands each room end = absurd (each (record { items = stands.0; doubt = None }) stands.1)
    installs_by old new (Err fault.NoMemory) k stands each room end =
        inl (stops_for_memory reads images moment since rid caller old new [] stands (adds_moved reads images moment since rid caller old new k [] tt (inl (refl, end)) stands each))

    -- behind a claim
    verdict_behind : (old mid : Store D) (verdict : Result Judged Whole) → StandsForSome old → Adds reads images moment since rid caller old mid [] → IsVerdictFor mid rid caller offer scope verdict
        → IsVerdictFor old rid caller offer scope verdict
    verdict_behind old mid verdict stands a v = λ objects e.
        let same = nothing_held reads images moment since rid caller old mid stands a in
        subst (λ (keyring : Contents). IsVerdict objects keyring (held_at old rid).state offer scope verdict) a.keyring
        (subst (λ (held : Held). IsVerdict objects mid.keyring held.state offer scope verdict) same (v objects (ap (λ (held : Held). held.objects) same ∙ e)))

    pub installs_behind : (old mid new : Store D) (result : Result (Result Judged Whole) KeepFault) → StandsForSome old → Adds reads images moment since rid caller old mid []
        → Installs reads images moment since rid caller offer scope mid new result → Installs reads images moment since rid caller offer scope old new result
    installs_behind old mid new (Ok verdict) stands a i = (
      verdict_behind old mid verdict stands a i.0,
      record {
        adds = adds_behind reads images moment since rid caller old mid new _ a i.1.adds;
        behind = subst (λ (held : Held). HeldBehind held verdict (held_at new rid)) (nothing_held reads images moment since rid caller old mid stands a) i.1.behind;
        room = i.1.room;
      },
    )
    installs_behind old mid new (Err why) stands a (inl s) = inl (stops_behind reads images moment since rid caller old mid new [] why stands a s)
    installs_behind old mid new (Err why) stands a (inr (judged, verdict, s)) =
        inr (judged, verdict_behind old mid (Ok judged) stands a verdict, stops_behind reads images moment since rid caller old mid new (install_of rid caller judged ∷ []) why stands a s)

    pub install_unchanged : (old new : Store D) (result : Result (Result Judged Whole) KeepFault) → StandsForSome old
        → ((core : Core) → StandsFor old core.items → IsInstall reads images moment since old new core rid offer scope caller result) → IfErr result IsNoChange
    install_unchanged old new (Ok verdict) stands each = tt
    install_unchanged old new (Err fault.DiskFault) stands each = tt
    install_unchanged old new (Err fault.Full) stands each = tt
    install_unchanged old new (Err (fault.Changed change)) stands each = each (record { items = stands.0; doubt = None }) stands.1
    install_unchanged old new (Err fault.NoMemory) stands each = tt

    pub installs_stand : (old new : Store D) (result : Result (Result Judged Whole) KeepFault) → StandsForSome old → Installs reads images moment since rid caller offer scope old new result
        → StandsForSome new
    installs_stand old new (Ok verdict) stands i = stands_then old new _ stands i.1.adds
    installs_stand old new (Err why) stands (inl s) = stands_then old new s.history stands s.adds
    installs_stand old new (Err why) stands (inr (judged, verdict, s)) = stands_then old new s.history stands s.adds
