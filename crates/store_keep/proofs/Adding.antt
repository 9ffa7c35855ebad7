-- What the calls of a store add to its entries.
use Rattle.std.proofs.Common.{◌≡◌, ◌⊎◌, ℕ, ◌<◌, ◌^◌, List, [], ◌∷◌, ◌++◌, map, Option, None, Some, inl, inr, refl, sym, ap, subst, ◌∙◌, append_assoc}
use Rattle.std.specs.List.{AllByRecursion}
use Rattle.std.proofs.lemmas.List.{append-nil, map-append}
use Rattle.rad_base.specs.declared.names.Rid.{Rid}
use Rattle.ref_journal.specs.Holds.{Holds, LeavesOnlyBetween}
use Rattle.ref_journal.specs.Images.{IsLeft}
use Rattle.ref_journal.specs.Moments.{MayHave}
use Rattle.ref_journal.proofs.Entering.{left_has}
use Rattle.ref_journal.proofs.Lasting.{leaves_both, leaves_more, leaves_none}
use Rattle.ref_journal.specs.declared.journal.Journal.{Journal}
use Rattle.repo_entries.specs.Items.{Item, entry_of, left_of, missed}
use Rattle.repo_entries.specs.declared.entry.Entry.{Entry}
use Rattle.repo_entries.specs.declared.entry.Entry.TheVariants as entries
use Rattle.repo_entries.specs.declared.entry.Left.{Left}
use Rattle.repo_entries.specs.declared.entry.Left.TheVariants as lefts
use Rattle.repo_slice.specs.Keeps.{LacksRoom, MayLeave}
use Rattle.repo_slice.specs.declared.keep_fault.KeepFault.{KeepFault}
use Rattle.repo_slice.specs.declared.keep_fault.KeepFault.TheVariants as fault
use Rattle.keyring.specs.Contents.{Contents}
use Rattle.legal_history.specs.Cores.{Core, Event, doubts, mends, misses}
use Rattle.legal_history.specs.Durable.{durable_part}
use Rattle.legal_history.specs.Replays.{Standing, after_items}
use Rattle.object_store.specs.Bodies.{bodies_of, body_in_doubt}
use Rattle.object_store.specs.Held.{held_at, held_standing}
use Rattle.object_store.specs.Shown.{Concerns}
use Rattle.object_store.specs.Stores.{IsLeftDuring, IsOnDisk, IsRefusedCall, Moves, StandsFor, StandsForSome}
use Rattle.object_store.specs.declared.store.Store.{Store}
use Rattle.object_store.proofs.Holding.{claimant_is, held_is}
use Rattle.store_keep.specs.Calls.{Adds, Stops}
use Rattle.store_keep.specs.Kept.{may_call}
use Rattle.store_keep.specs.Made.{EndsWithin, IsDoubtKnown, IsImageOf, IsMade, IsPastImage, ReopensLegal, Start, no_claims}
use Rattle.store_keep.proofs.Claimless.{same_last}
use Rattle.store_keep.proofs.Going.{Goes, IsOf, added_by, adds_of, goes_none, runs_go}
use Rattle.store_keep.proofs.Imaging.{core_image, core_legal}
use Rattle.legal_history.specs.Histories.{Legal}
use Rattle.legal_history.proofs.Durables.{durable-append}

-- what two runs of events add
added_along : (xs ys : List Event) → added_by (xs ++ ys) ≡ added_by xs ++ added_by ys
added_along [] ys = refl
added_along (event ∷ xs) ys = ap (λ (l : List Item). adds_of event ++ l) (added_along xs ys) ∙ sym (append_assoc (adds_of event) (added_by xs) (added_by ys))

each_front : {X : Type 0} (P : X → Type 0) (xs ys : List X) → AllByRecursion P (xs ++ ys) → AllByRecursion P xs
each_front P [] ys each = tt
each_front P (x ∷ xs) ys each = (each.0, each_front P xs ys each.1)

-- a step that adds these entries: none of them is durable and the end stays, or the end is within the limit
abbrev pub StepsWithin : ℕ → ℕ → List Item → Type 0
StepsWithin old new added = ((durable_part added ≡ []) × (new ≡ old)) ⊎ (new < 2 ^ 40)

-- room behind a step
within_along : (old new : ℕ) (before added : List Item) → EndsWithin old before → StepsWithin old new added → EndsWithin new (before ++ added)
within_along old new before added h (inr fits) = inr fits
within_along old new before added (inl none) (inl step) =
    inl (durable-append before added ∙ ap (λ (l : List Item). l ++ durable_part added) none ∙ step.0)
within_along old new before added (inr fits) (inl step) = inr (subst (λ (n : ℕ). n < 2 ^ 40) (sym step.1) fits)

module _ {D : Type 0} (reads : D → Option (List ℕ)) (images : D → List ℕ → Type 0) (moment : D → ℕ) (since : D → ℕ → List ℕ → Type 0) where
  module _ (rid : Rid) (caller : ℕ) (old new : Store D) (k : new.keyring ≡ old.keyring) where
    -- an image of a stop in a move from a core on, of some first of these entries
    pub record IsPassed (core : Core) (added : List Item) (image : List ℕ) : Type 0 where
      pub now : Core
      pub done : List Item
      pub rest : List Item
      pub all : added ≡ done ++ rest
      pub goes : Goes old.keyring rid caller core now done
      pub has : MayHave (bodies_of (durable_part now.items)) (body_in_doubt now.doubt) image

    -- a move from a core on
    pub record Went (core : Core) (added : List Item) : Type 0 where
      pub next : Core
      pub goes : Goes old.keyring rid caller core next added
      pub stands : StandsFor new next.items
      pub disk : Holds reads images old.journal (bodies_of (durable_part core.items)) (body_in_doubt core.doubt)
          → Holds reads images new.journal (bodies_of (durable_part next.items)) (body_in_doubt next.doubt)
      pub time : IsOnDisk reads images old core → LeavesOnlyBetween moment since old.journal.disk new.journal.disk (IsPassed core added)

    -- a stop among events is one among the entries that they add
    pub passed : (core : Core) (events : List Event) → AllByRecursion (IsOf rid caller) events → Legal old.keyring core.items → (image : List ℕ)
        → IsLeftDuring old.keyring core events image → IsPassed core (added_by events) image
    passed core events is legal image l = record {
      now = l.now;
      done = added_by l.past;
      rest = added_by l.rest;
      all = ap added_by l.all ∙ added_along l.past l.rest;
      goes = runs_go old.keyring rid caller core l.past l.now
          (each_front (IsOf rid caller) l.past l.rest (subst (AllByRecursion (IsOf rid caller)) l.all is)) legal l.runs;
      has = l.has;
    }

    abbrev pub went : (core : Core) (events : List Event) → AllByRecursion (IsOf rid caller) events → StandsFor old core.items → Moves reads images moment since old new core events
        → Went core (added_by events)
    went core events is s m = record {
      next = m.next;
      goes = runs_go old.keyring rid caller core events m.next is s.legal m.runs;
      stands = m.stands;
      disk = m.disk;
      time = λ h.
          leaves_more (IsLeftDuring old.keyring core events) (IsPassed core (added_by events)) (moment old.journal.disk) (moment new.journal.disk) (since old.journal.disk)
          (since new.journal.disk) (passed core events is s.legal) (m.time h);
    }

    -- an image of before is one of the first of more entries
    longer : (first before added : List Item) (image : List ℕ) → IsPastImage old.keyring first before image → IsPastImage new.keyring first (before ++ added) image
    longer first before added image p = record {
      done = p.done;
      rest = p.rest ++ added;
      all = ap (λ (l : List Item). l ++ added) p.all ∙ append_assoc (first ++ p.done) p.rest added;
      has = p.has;
      legal = subst (λ (keyring : Contents). ReopensLegal keyring image) (sym k) p.legal;
    }

    -- an image of a stop is one of the first of the entries
    passed_image : (first more before added : List Item) (core : Core) → before ≡ no_claims core.items → before ≡ first ++ more → IsDoubtKnown old.keyring core → (image : List ℕ)
        → IsPassed core added image → IsPastImage new.keyring first (before ++ added) image
    passed_image first more before added core is all known image p =
        let front : no_claims p.now.items ≡ first ++ (more ++ p.done) =
        p.goes.entries ∙ ap (λ (l : List Item). l ++ p.done) (sym is ∙ all) ∙ append_assoc first more p.done in
        record {
          done = more ++ p.done;
          rest = p.rest;
          all = ap (λ (l : List Item). before ++ l) p.all ∙ sym (append_assoc before p.done p.rest)
              ∙ ap (λ (l : List Item). (l ++ p.done) ++ p.rest) all ∙ ap (λ (l : List Item). l ++ p.rest) (append_assoc first more p.done);
          has = subst (λ (l : List Item). IsImageOf l image) front (core_image old.keyring p.now (p.goes.doubt known) p.goes.legal image p.has);
          legal = subst (λ (keyring : Contents). ReopensLegal keyring image) (sym k) (core_legal old.keyring p.now (p.goes.doubt known) p.goes.legal image p.has);
        }

    -- what was made before is made, with these
    went_made : (added : List Item) (start : Start D) (before : List Item) → (h : IsMade reads images moment since old start before) → StepsWithin old.journal.end new.journal.end added
        → Went h.core added → IsMade reads images moment since new start (before ++ added)
    went_made added start before h step w = record {
      core = w.next;
      entries = ap (λ (l : List Item). l ++ added) h.entries ∙ sym w.goes.entries;
      stands = w.stands;
      disk = w.disk h.disk;
      doubt = subst (λ (keyring : Contents). IsDoubtKnown keyring w.next) (sym k) (w.goes.doubt h.doubt);
      added = h.added ++ added;
      all = ap (λ (l : List Item). l ++ added) h.all ∙ append_assoc start.items h.added added;
      room = within_along old.journal.end new.journal.end h.added added h.room step;
      time =
          let Past = IsPastImage new.keyring start.items (before ++ added) in
          leaves_both Past (moment start.disk) (moment old.journal.disk) (moment new.journal.disk) (since start.disk) (since old.journal.disk) (since new.journal.disk)
          (leaves_more (IsPastImage old.keyring start.items before) Past (moment start.disk) (moment old.journal.disk) (since start.disk) (since old.journal.disk)
          (longer start.items before added) h.time)
          (leaves_more (IsPassed h.core added) Past (moment old.journal.disk) (moment new.journal.disk) (since old.journal.disk) (since new.journal.disk)
          (passed_image start.items h.added before added h.core h.entries h.all h.doubt) (w.time h.disk));
    }

    -- from every core on
    pub adds_by : (added : List Item) → StepsWithin old.journal.end new.journal.end added → StandsForSome old → ((core : Core) → StandsFor old core.items → Went core added) → Adds reads images moment since rid caller old new added
    adds_by added step stands each =
        let first = each (record { items = stands.0; doubt = None }) stands.1 in
        record {
          keyring = k;
          made = λ start before h. went_made added start before h step (each h.core h.stands);
          callable = λ q.
              ap (λ (n : ℕ). may_call caller n) (claimant_is new q first.next.items first.stands) ∙ first.goes.callable q
              ∙ sym (ap (λ (n : ℕ). may_call caller n) (claimant_is old q stands.0 stands.1));
          others = λ q other.
              held_is new q first.next.items first.stands ∙ ap (held_standing q) (first.goes.others q other) ∙ sym (held_is old q stands.0 stands.1);
          replays = λ items s.
              let here = each (record { items = items; doubt = None }) s in
              (here.next.items, here.stands, here.goes.replays rid);
        }

    -- events of every core
    pub adds_moved : (events : List Event) → AllByRecursion (IsOf rid caller) events → StepsWithin old.journal.end new.journal.end (added_by events) → StandsForSome old
        → ((core : Core) → StandsFor old core.items → Moves reads images moment since old new core events) → Adds reads images moment since rid caller old new (added_by events)
    adds_moved events is step stands each = adds_by (added_by events) step stands (λ core s. went core events is s (each core s))

    -- a store that stays stands for the same
    pub adds_still : ((disk : D) (image : List ℕ) → since disk (moment disk) image → images disk image) → new.journal ≡ old.journal → StandsForSome old → ((items : List Item) → StandsFor old items → StandsFor new items) → Adds reads images moment since rid caller old new []
    adds_still now j stands keeps = adds_by [] (inl (refl, ap (λ (x : Journal D). x.end) j)) stands (λ core s. record {
      next = core;
      goes = goes_none old.keyring rid caller core s.legal;
      stands = keeps core.items s;
      disk = λ h. subst (λ (x : Journal D). Holds reads images x (bodies_of (durable_part core.items)) (body_in_doubt core.doubt)) (sym j) h;
      time = λ h.
          let bodies = bodies_of (durable_part core.items) in
          let doubt = body_in_doubt core.doubt in
          let disk = old.journal.disk in
          subst (λ (x : Journal D). LeavesOnlyBetween moment since disk x.disk (IsPassed core [])) (sym j)
          (leaves_none (IsLeft bodies doubt old.journal.end) (IsPassed core []) (moment disk) (reads disk) (since disk) (images disk) (λ image left. record {
            now = core;
            done = [];
            rest = [];
            all = refl;
            goes = goes_none old.keyring rid caller core s.legal;
            has = left_has bodies doubt old.journal.end image left;
          }) h.tells (now disk));
    })

    -- ---- a call that met a fault of the disk

    -- one missed entry more, which left this
    pub record Missed (core : Core) (left : Left) : Type 0 where
      pub went : Went core (missed (Some rid) left caller ∷ [])
      pub last : went.next.items ≡ core.items ++ missed (Some rid) left caller ∷ []

    missed_doubt : (core : Core) (item : Item) → Concerns rid item → StandsFor old core.items → Moves reads images moment since old new core (mends ∷ doubts (Some rid) caller item ∷ [])
        → Missed core (left_of item)
    missed_doubt core item is s m = record {
      went = went core (mends ∷ doubts (Some rid) caller item ∷ []) (tt, ((refl, is), tt)) s m;
      last = ap (λ (c : Core). c.items) (m.runs.2.2 ∙ m.runs.2.1.3) ∙ ap (λ (c : Core). c.items ++ missed (Some rid) (left_of item) caller ∷ []) m.runs.1;
    }

    missed_mended : (core : Core) → StandsFor old core.items → Moves reads images moment since old new core (mends ∷ misses (Some rid) caller ∷ []) → Missed core lefts.Nothing
    missed_mended core s m = record {
      went = went core (mends ∷ misses (Some rid) caller ∷ []) (tt, (tt, tt)) s m;
      last = ap (λ (c : Core). c.items) (m.runs.2.2 ∙ m.runs.2.1) ∙ ap (λ (c : Core). c.items ++ missed (Some rid) lefts.Nothing caller ∷ []) m.runs.1;
    }

    missed_only : (core : Core) → StandsFor old core.items → Moves reads images moment since old new core (misses (Some rid) caller ∷ []) → Missed core lefts.Nothing
    missed_only core s m = record {
      went = went core (misses (Some rid) caller ∷ []) (tt, tt) s m;
      last = ap (λ (c : Core). c.items) (m.runs.2 ∙ m.runs.1);
    }

    -- what a missed entry left
    left_in : Entry → Left
    left_in (entries.Claim q c) = lefts.Nothing
    left_in (entries.Put q n c) = lefts.Nothing
    left_in (entries.Install q i r c) = lefts.Nothing
    left_in (entries.Heard m c) = lefts.Nothing
    left_in (entries.Missed q l c) = l
    left_in (entries.Refused q w c) = lefts.Nothing

    -- the store's history says what was left
    told_missed : (core : Core) (left : Left) → Missed core left → new.history.entries.items ≡ map entry_of core.items ++ entries.Missed (Some rid) left caller ∷ []
    told_missed core left m =
        m.went.stands.entries ∙ ap (λ (l : List Item). map entry_of l) m.last ∙ map-append entry_of core.items (missed (Some rid) left caller ∷ [])

    one_left : (a b : Core) (these those : Left) → Missed a these → Missed b those → these ≡ those
    unfolding left_in
    one_left a b these those m n =
        ap left_in (same_last (map entry_of a.items) (map entry_of b.items) (entries.Missed (Some rid) these caller) (entries.Missed (Some rid) those caller)
        (sym (told_missed a these m) ∙ told_missed b those n))

    -- the entry that the call had to write, if what it left names it
    abbrev pub Names : (Item → Type 0) → Left → Type 0
    Names IsOne left = (left ≡ lefts.Nothing) ⊎ ((item : Item) × IsOne item × (left ≡ left_of item))

    -- a refused call, from a core on
    pub missed_by : (IsOne : Item → Type 0) (core : Core) (item : Item) → Concerns rid item → IsOne item → StandsFor old core.items
        → IsRefusedCall reads images moment since old new core (Some rid) caller item fault.DiskFault → (left : Left) × Names IsOne left × Missed core left
    missed_by IsOne core item is one s (inl m) = (left_of item, inr (item, one, refl), missed_doubt core item is s m)
    missed_by IsOne core item is one s (inr (inl m)) = (lefts.Nothing, inl refl, missed_mended core s m)
    missed_by IsOne core item is one s (inr (inr m)) = (lefts.Nothing, inl refl, missed_only core s m)

    -- from every core on it left the same
    pub adds_missed : (IsOne : Item → Type 0) → new.journal.end ≡ old.journal.end → StandsForSome old → ((core : Core) → StandsFor old core.items → (left : Left) × Names IsOne left × Missed core left)
        → (left : Left) × Names IsOne left × Adds reads images moment since rid caller old new (missed (Some rid) left caller ∷ [])
    adds_missed IsOne stays stands each =
        let first = each (record { items = stands.0; doubt = None }) stands.1 in (
          first.0,
          first.1,
          adds_by (missed (Some rid) first.0 caller ∷ []) (inl (refl, stays)) stands (λ core s.
              let here = each core s in
              subst (λ (left : Left). Went core (missed (Some rid) left caller ∷ []))
              (one_left core (record { items = stands.0; doubt = None }) here.0 first.0 here.2 first.2) here.2.went),
        )

  -- ---- a call behind a claim

  -- what a repository has where nothing was added
  pub nothing_held : (rid : Rid) (caller : ℕ) (old new : Store D) → StandsForSome old → Adds reads images moment since rid caller old new [] → held_at new rid ≡ held_at old rid
  nothing_held rid caller old new stands a =
      let next = a.replays stands.0 stands.1 in
      held_is new rid next.0 next.1 ∙ ap (held_standing rid) next.2 ∙ sym (held_is old rid stands.0 stands.1)

  pub adds_behind : (rid : Rid) (caller : ℕ) (old mid new : Store D) (added : List Item) → Adds reads images moment since rid caller old mid [] → Adds reads images moment since rid caller mid new added
      → Adds reads images moment since rid caller old new added
  adds_behind rid caller old mid new added a b = record {
    keyring = b.keyring ∙ a.keyring;
    made = λ start before h. b.made start before (subst (λ (l : List Item). IsMade reads images moment since mid start l) (append-nil before) (a.made start before h));
    callable = λ q. b.callable q ∙ a.callable q;
    others = λ q other. b.others q other ∙ a.others q other;
    replays = λ items s.
        let first = a.replays items s in
        let second = b.replays first.0 first.1 in
        (second.0, second.1, second.2 ∙ ap (λ (x : Standing). after_items rid x added) first.2);
  }

  pub stops_behind : (rid : Rid) (caller : ℕ) (old mid new : Store D) (entries : List Item) (why : KeepFault) → StandsForSome old → Adds reads images moment since rid caller old mid []
      → Stops reads images moment since rid caller mid new entries why → Stops reads images moment since rid caller old new entries why
  stops_behind rid caller old mid new entries why stands a s = record {
    history = s.history;
    stopped = s.stopped;
    adds = adds_behind rid caller old mid new s.history a s.adds;
    same = s.same ∙ nothing_held rid caller old mid stands a;
  }

  -- ---- refusals

  nothing_left : (entries : List Item) → MayLeave entries lefts.Nothing
  nothing_left [] = refl
  nothing_left (item ∷ more) = inl refl

  not_full : fault.NoMemory ≡ fault.Full → ⊥
  not_full e = cc e

  disk_not_full : fault.DiskFault ≡ fault.Full → ⊥
  disk_not_full e = cc e

  -- memory was refused
  pub stops_for_memory : (rid : Rid) (caller : ℕ) (old new : Store D) (entries : List Item) → StandsForSome old → Adds reads images moment since rid caller old new []
      → Stops reads images moment since rid caller old new entries fault.NoMemory
  stops_for_memory rid caller old new entries stands a = record {
    history = [];
    stopped = record {
      done = [];
      rest = entries;
      all = refl;
      left = lefts.Nothing;
      doubt = nothing_left entries;
      full = λ e. absurd (not_full e);
      history_is = refl;
    };
    adds = a;
    same = nothing_held rid caller old new stands a;
  }

  -- the journal was full
  pub stops_full : (rid : Rid) (caller : ℕ) (old new : Store D) (item : Item) → StandsForSome old → Adds reads images moment since rid caller old new []
      → LacksRoom new.journal.end (item ∷ []) → Stops reads images moment since rid caller old new (item ∷ []) fault.Full
  stops_full rid caller old new item stands a lacks = record {
    history = [];
    stopped = record {
      done = [];
      rest = item ∷ [];
      all = refl;
      left = lefts.Nothing;
      doubt = inl refl;
      full = λ e. lacks;
      history_is = refl;
    };
    adds = a;
    same = nothing_held rid caller old new stands a;
  }

  -- the disk failed
  missed_held : (rid : Rid) (caller : ℕ) (left : Left) (old new : Store D) → StandsForSome old → Adds reads images moment since rid caller old new (missed (Some rid) left caller ∷ [])
      → held_at new rid ≡ held_at old rid
  missed_held rid caller left old new stands a =
      let next = a.replays stands.0 stands.1 in
      held_is new rid next.0 next.1 ∙ ap (held_standing rid) next.2 ∙ sym (held_is old rid stands.0 stands.1)

  -- with nothing to write, or with nothing left of it
  pub stops_nothing : (rid : Rid) (caller : ℕ) (old new : Store D) (entries : List Item) (left : Left) → StandsForSome old → left ≡ lefts.Nothing
      → Adds reads images moment since rid caller old new (missed (Some rid) left caller ∷ []) → Stops reads images moment since rid caller old new entries fault.DiskFault
  stops_nothing rid caller old new entries left stands none a = record {
    history = missed (Some rid) left caller ∷ [];
    stopped = record {
      done = [];
      rest = entries;
      all = refl;
      left = left;
      doubt = subst (MayLeave entries) (sym none) (nothing_left entries);
      full = λ e. absurd (disk_not_full e);
      history_is = refl;
    };
    adds = a;
    same = missed_held rid caller left old new stands a;
  }

  pub stops_missed : (rid : Rid) (caller : ℕ) (old new : Store D) (item : Item) (left : Left) → StandsForSome old → (left ≡ lefts.Nothing) ⊎ (left ≡ left_of item)
      → Adds reads images moment since rid caller old new (missed (Some rid) left caller ∷ []) → Stops reads images moment since rid caller old new (item ∷ []) fault.DiskFault
  stops_missed rid caller old new item left stands names a = record {
    history = missed (Some rid) left caller ∷ [];
    stopped = record {
      done = [];
      rest = item ∷ [];
      all = refl;
      left = left;
      doubt = names;
      full = λ e. absurd (disk_not_full e);
      history_is = refl;
    };
    adds = a;
    same = missed_held rid caller left old new stands a;
  }
