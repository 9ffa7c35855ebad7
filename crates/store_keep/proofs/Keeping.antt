-- What a keep over a store leaves behind a call.
use Rattle.std.proofs.Common.{◌≡◌, ℕ, ◌≤◌, List, [], ◌∷◌, Bool, if◌then◌else◌, ◌<◌, ◌^◌, Option, Result, Ok, Err, inl, inr, refl, sym, ap, subst, ◌∙◌, arith}
use Rattle.std.specs.Prelude.{IsErrOf, IfErr, IfOk, OnErr, OnOk}
use Rattle.rad_base.specs.Faults.{Rose}
use Rattle.rad_base.specs.declared.names.Rid.{Rid}
use Rattle.rad_base.specs.declared.offer.Offer.{Offer}
use Rattle.commit_graph.specs.Objects.{Object, ObjectMap}
use Rattle.ref_journal.specs.declared.journal.Journal.{Journal}
use Rattle.repo_entries.specs.Items.{Item, put}
use Rattle.repo_entries.specs.declared.whole.Whole.{Whole}
use Rattle.repo_slice.specs.Keeps.{HadRoom, HasSlice, Held, HeldBehind, IsKeepCause, IsNoChange, LeavesOthers, Makes, StopsAtVerdict, StopsIn, item_of, put_told}
use Rattle.repo_slice.specs.declared.keep_fault.KeepFault.{KeepFault}
use Rattle.repo_slice.specs.declared.keep_fault.KeepFault.TheVariants as fault
use Rattle.repo_slice.specs.declared.scope.Scope.{Scope}
use Rattle.repo_slice.specs.declared.verdict.Judged.{Judged}
use Rattle.legal_history.specs.Replays.{after_put, replay}
use Rattle.object_store.specs.Held.{held_at, held_in, held_standing}
use Rattle.object_store.specs.Stores.{StandsForSome, install_of}
use Rattle.object_store.specs.declared.store.Store.{Store}
use Rattle.object_store.proofs.Holding.{held_is}
use Rattle.object_store.proofs.Keys.{is_itself}
use Rattle.store_keep.specs.Calls.{Adds, Installs, IsVerdictFor, Puts, Stops}
use Rattle.store_keep.specs.Kept.{Kept, constants_of}
use Rattle.store_keep.specs.Made.{IsMade, Start}
use Rattle.store_keep.proofs.Adding.{stops_for_memory}

-- a store that a keep has
abbrev pub kept_of : {D : Type 0} → Store D → ℕ → Kept D
kept_of store caller = record { store = store; caller = caller }

abbrev pub has_made : {D : Type 0} → (D → Option (List ℕ)) → (D → List ℕ → Type 0) → (D → ℕ) → (D → ℕ → List ℕ → Type 0) → Kept D → Start D → List Item → Type 0
has_made reads images moment since kept start items = IsMade reads images moment since kept.store start items

abbrev pub has_held : {D : Type 0} → Kept D → Rid → Held
has_held kept rid = held_at kept.store rid

module _ {D : Type 0} (reads : D → Option (List ℕ)) (images : D → List ℕ → Type 0) (moment : D → ℕ) (since : D → ℕ → List ℕ → Type 0) (loan faults : D → ℕ) (rid : Rid) (caller : ℕ) (old new : Store D) where
  abbrev pub Leaves : Type 0
  Leaves = LeavesOthers constants_of (λ (k : Kept D). loan k.store.journal.disk) (λ (k : Kept D). faults k.store.journal.disk) has_held rid (kept_of old caller) (kept_of new caller)

  pub leaves_by : (added : List Item) → Adds reads images moment since rid caller old new added → loan new.journal.disk ≡ loan old.journal.disk → faults old.journal.disk ≤ faults new.journal.disk → Leaves
  leaves_by added a same later = record {
    constants_stay = (λ i. record { keyring = a.keyring i; caller = caller; stands = λ q. a.callable q i });
    loan_stays = same;
    later = later;
    others = λ other here apart. a.others other apart;
  }

  -- a call that only claims
  pub leaves_still : Adds reads images moment since rid caller old new [] → new.journal ≡ old.journal → Leaves
  leaves_still a j = leaves_by [] a (ap (λ (x : Journal D). loan x.disk) j) (subst (λ (x : Journal D). faults old.journal.disk ≤ faults x.disk) (sym j) (omega arith))

  -- a refused call
  pub stops_in : (entries : List Item) (why : KeepFault) → Stops reads images moment since rid caller old new entries why
      → StopsIn (has_made reads images moment since) rid caller new.journal.end (kept_of old caller) (kept_of new caller) entries why
  stops_in entries why s = (s.history, s.stopped, s.adds.made)

  -- by what a call answered that is refused for memory alone
  pub stops_by_memory : {X : Type 0} (result : Result X KeepFault) → IfErr result (λ why. why ≡ fault.NoMemory) → StandsForSome old → Adds reads images moment since rid caller old new []
      → IfErr result (StopsIn (has_made reads images moment since) rid caller new.journal.end (kept_of old caller) (kept_of new caller) [])
  stops_by_memory (Ok x) why stands a = tt
  stops_by_memory (Err why) is stands a =
      subst (λ (x : KeepFault). StopsIn (has_made reads images moment since) rid caller new.journal.end (kept_of old caller) (kept_of new caller) [] x) (sym is)
      (stops_in [] fault.NoMemory (stops_for_memory reads images moment since rid caller old new [] stands a))

  -- the cause of a refusal
  pub cause_of : (objects : Option ObjectMap) (why : KeepFault) → IsNoChange why → (why ≡ fault.DiskFault → Rose (faults old.journal.disk) (faults new.journal.disk))
      → IsKeepCause objects (faults old.journal.disk) (faults new.journal.disk) why
  cause_of objects fault.DiskFault free rose = rose refl
  cause_of objects fault.Full free rose = tt
  cause_of objects (fault.Changed change) free rose = absurd free
  cause_of objects fault.NoMemory free rose = tt

  -- what a put leaves of its repository
  pub put_slice : (batch : List Object) → StandsForSome old → Adds reads images moment since rid caller old new (put rid batch caller ∷ [])
      → HasSlice (held_at old rid).state (put_told (held_at old rid).objects batch) (held_at new rid)
  put_slice batch stands a =
      let items = stands.0 in
      let next = a.replays items stands.1 in
      let behind = held_is new rid next.0 next.1 ∙ ap (held_standing rid) (next.2 ∙ ap (λ (b : Bool). if b then after_put batch (replay rid items) else replay rid items) (is_itself rid)) in
      let after : HasSlice (held_in rid items).state (put_told (held_in rid items).objects batch) (held_standing rid (after_put batch (replay rid items))) =
      record { same_state = refl; same_objects = λ oid. refl } in
      subst (λ (held : Held). HasSlice held.state (put_told held.objects batch) (held_at new rid)) (sym (held_is old rid items stands.1))
      (subst (λ (held : Held). HasSlice (held_in rid items).state (put_told (held_in rid items).objects batch) held) (sym behind) after)

  -- ---- by what a put answered

  pub put_entered : (batch : List Object) (result : Result (Unit {0}) KeepFault) → Puts reads images moment since rid caller batch old new result
      → OnOk result (Makes (has_made reads images moment since) (kept_of old caller) (kept_of new caller) (put rid batch caller ∷ []))
  put_entered batch (Ok done) p = p.0.made
  put_entered batch (Err why) p = tt

  pub put_stops : (batch : List Object) (result : Result (Unit {0}) KeepFault) → Puts reads images moment since rid caller batch old new result
      → IfErr result (StopsIn (has_made reads images moment since) rid caller new.journal.end (kept_of old caller) (kept_of new caller) (put rid batch caller ∷ []))
  put_stops batch (Ok done) p = tt
  put_stops batch (Err why) p = stops_in (put rid batch caller ∷ []) why p

  pub put_leaves : (batch : List Object) (result : Result (Unit {0}) KeepFault) → Puts reads images moment since rid caller batch old new result → loan new.journal.disk ≡ loan old.journal.disk
      → faults old.journal.disk ≤ faults new.journal.disk → Leaves
  put_leaves batch (Ok done) p same later = leaves_by (put rid batch caller ∷ []) p.0 same later
  put_leaves batch (Err why) p same later = leaves_by p.history p.adds same later

  pub put_held : (batch : List Object) (result : Result (Unit {0}) KeepFault) → StandsForSome old → Puts reads images moment since rid caller batch old new result
      → OnOk result (HasSlice (held_at old rid).state (put_told (held_at old rid).objects batch) (held_at new rid))
  put_held batch (Ok done) stands p = put_slice batch stands p.0
  put_held batch (Err why) stands p = tt

  pub put_same : (batch : List Object) (result : Result (Unit {0}) KeepFault) → Puts reads images moment since rid caller batch old new result → OnErr result (held_at new rid ≡ held_at old rid)
  put_same batch (Ok done) p = tt
  put_same batch (Err why) p = p.same

  pub put_room : (batch : List Object) (result : Result (Unit {0}) KeepFault) → Puts reads images moment since rid caller batch old new result → OnOk result (new.journal.end < 2 ^ 40)
  put_room batch (Ok done) p = p.1
  put_room batch (Err why) p = tt

  pub cause_by : {X : Type 0} (objects : Option ObjectMap) (result : Result X KeepFault) → IfErr result IsNoChange
      → (IsErrOf result fault.DiskFault → Rose (faults old.journal.disk) (faults new.journal.disk)) → IfErr result (IsKeepCause objects (faults old.journal.disk) (faults new.journal.disk))
  cause_by objects (Ok x) free rose = tt
  cause_by objects (Err why) free rose = cause_of objects why free (λ e. rose (ap Err e))

  -- ---- by what an install answered

  module _ (offer : Offer) (scope : Scope) where
    pub install_leaves : (result : Result (Result Judged Whole) KeepFault) → Installs reads images moment since rid caller offer scope old new result → loan new.journal.disk ≡ loan old.journal.disk
        → faults old.journal.disk ≤ faults new.journal.disk → Leaves
    install_leaves (Ok verdict) i same later = leaves_by (item_of rid caller verdict ∷ []) i.1.adds same later
    install_leaves (Err why) (inl s) same later = leaves_by s.history s.adds same later
    install_leaves (Err why) (inr (judged, verdict, s)) same later = leaves_by s.history s.adds same later

    pub install_verdict : (result : Result (Result Judged Whole) KeepFault) → Installs reads images moment since rid caller offer scope old new result → IfOk result (IsVerdictFor old rid caller offer scope)
    install_verdict (Ok verdict) i = i.0
    install_verdict (Err why) i = tt

    pub install_entered : (result : Result (Result Judged Whole) KeepFault) → Installs reads images moment since rid caller offer scope old new result
        → IfOk result (λ verdict. Makes (has_made reads images moment since) (kept_of old caller) (kept_of new caller) (item_of rid caller verdict ∷ []))
    install_entered (Ok verdict) i = i.1.adds.made
    install_entered (Err why) i = tt

    pub install_stops : (result : Result (Result Judged Whole) KeepFault) → Installs reads images moment since rid caller offer scope old new result
        → IfErr result (StopsAtVerdict (has_made reads images moment since) rid caller new.journal.end (kept_of old caller) (kept_of new caller) (IsVerdictFor old rid caller offer scope))
    install_stops (Ok verdict) i = tt
    install_stops (Err why) (inl s) = inl (stops_in [] why s)
    install_stops (Err why) (inr (judged, verdict, s)) = inr (judged, verdict, stops_in (install_of rid caller judged ∷ []) why s)

    pub install_held : (result : Result (Result Judged Whole) KeepFault) → Installs reads images moment since rid caller offer scope old new result
        → IfOk result (λ verdict. HeldBehind (held_at old rid) verdict (held_at new rid))
    install_held (Ok verdict) i = i.1.behind
    install_held (Err why) i = tt

    pub install_same : (result : Result (Result Judged Whole) KeepFault) → Installs reads images moment since rid caller offer scope old new result → OnErr result (held_at new rid ≡ held_at old rid)
    install_same (Ok verdict) i = tt
    install_same (Err why) (inl s) = s.same
    install_same (Err why) (inr (judged, verdict, s)) = s.same

    pub install_room : (result : Result (Result Judged Whole) KeepFault) → Installs reads images moment since rid caller offer scope old new result → IfOk result (HadRoom new.journal.end)
    install_room (Ok verdict) i = i.1.room
    install_room (Err why) i = tt
