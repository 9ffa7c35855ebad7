-- The events of a call that has an entry to write.
use Rattle.std.proofs.Common.{◌≡◌, ◌⊎◌, ℕ, Bool, true, false, List, [], ◌∷◌, ◌++◌, map, Option, None, Some, Ok, Err, inl, inr, refl, sym, ap, subst, ◌∙◌}
use Rattle.std.specs.BTreeMap.{get}
use Rattle.std.proofs.lemmas.List.{append-nil, map-append}
use Rattle.rad_base.specs.Order.{rid_cmp}
use Rattle.rad_base.specs.declared.names.Rid.{Rid}
use Rattle.announcements.specs.Held.{kept_in}
use Rattle.announcements.specs.Tables.{IsTable, Keeping}
use Rattle.keyring.specs.Contents.{Contents}
use Rattle.ref_journal.specs.Holds.{CrashLeaves, Holds, LeavesDoubt, LeavesOnlyBetween, MendedMayHave}
use Rattle.ref_journal.specs.Images.{IsLeft}
use Rattle.ref_journal.specs.Moments.{HasBodies, MayHave}
use Rattle.ref_journal.proofs.Entering.{left_has}
use Rattle.ref_journal.proofs.Lasting.{leaves_more, leaves_none}
use Rattle.ref_journal.specs.declared.faults.AppendFault.TheVariants as faults
use Rattle.ref_journal.specs.declared.journal.Journal.{Journal}
use Rattle.repo_entries.specs.Items.{Item, claim, entry_of, heard, install, left_of, missed, put, refused}
use Rattle.repo_entries.specs.declared.entry.Entry.{Entry}
use Rattle.repo_entries.specs.declared.entry.Entry.TheVariants.{Missed}
use Rattle.repo_entries.specs.declared.entry.Left.{Left}
use Rattle.repo_entries.specs.declared.entry.Left.TheVariants as lefts
use Rattle.repo_slice.specs.declared.keep_fault.KeepFault.TheVariants.{DiskFault}
use Rattle.entry_bodies.specs.Bodies.{body_of}
use Rattle.legal_history.specs.Cores.{Core, Event, Runs, doubts, enters, mends, misses}
use Rattle.legal_history.specs.Durable.{IsDurable, durable_part, reopened}
use Rattle.legal_history.specs.Histories.{Lawful, Legal}
use Rattle.legal_history.specs.Replays.{claimant, messages_in}
use Rattle.legal_history.proofs.Durables.{durable-append, durable_more, legal_more}
use Rattle.object_store.specs.Bodies.{bodies_of, body_in_doubt}
use Rattle.object_store.specs.Entries.{left_by, missed_entry}
use Rattle.object_store.specs.Repositories.{StandsKnown}
use Rattle.object_store.specs.Stores.{HasClaimed, IsLeftDuring, IsOnDisk, IsRefusedCall, Moves, StandsFor}
use Rattle.object_store.specs.declared.store.Store.{Store}
use Rattle.object_store.proofs.Standing.{claimant_told, each_missed}
use Rattle.object_store.proofs.Tables.{table_more}

-- an entry that is read again has its body
pub same_body : (item : Item) → body_of (reopened item) ≡ body_of item
same_body (claim rid caller) = refl
same_body (put rid batch caller) = refl
same_body (install rid id remotes caller) = refl
same_body (heard message caller) = refl
same_body (missed of left caller) = refl
same_body (refused rid why caller) = refl

-- one durable entry more is one body more
pub bodies_more : (items : List Item) (item : Item) → IsDurable item → bodies_of (durable_part (items ++ item ∷ [])) ≡ bodies_of (durable_part items) ++ body_of item ∷ []
bodies_more items item d =
    ap bodies_of (durable_more items item d) ∙ map-append body_of (durable_part items) (reopened item ∷ [])
    ∙ ap (λ (b : List ℕ). bodies_of (durable_part items) ++ b ∷ []) (same_body item)

-- a Missed entry has none
bodies_missed : (items : List Item) (of : Option Rid) (left : Left) (caller : ℕ) → bodies_of (durable_part (items ++ missed of left caller ∷ [])) ≡ bodies_of (durable_part items)
bodies_missed items of left caller = ap bodies_of (durable-append items (missed of left caller ∷ []) ∙ append-nil (durable_part items))

-- what is left of an entry
pub left_is : (item : Item) → IsDurable item → left_by (entry_of item) ≡ left_of item
left_is (claim rid caller) d = absurd d
left_is (put rid batch caller) d = refl
left_is (install rid id remotes caller) d = refl
left_is (heard message caller) d = refl
left_is (missed of left caller) d = absurd d
left_is (refused rid why caller) d = absurd d

-- the caller that claimed is the one that the entries tell
pub claimed_is : {D : Type 0} (store : Store D) (items : List Item) (rid : Rid) (caller : ℕ) → HasClaimed store rid caller → StandsFor store items → caller ≡ claimant rid items
claimed_is store items rid caller c s = sym c.claimant ∙ claimant_told (get rid_cmp store.repositories rid) rid items (s.each rid)

-- the history with one entry more
pub entries_more : {D : Type 0} (old new : Store D) (items : List Item) (item : Item) → StandsFor old items
    → new.history.entries.items ≡ old.history.entries.items ++ entry_of item ∷ [] → new.history.entries.items ≡ map entry_of (items ++ item ∷ [])
entries_more old new items item s e = e ∙ ap (λ (l : List Entry). l ++ entry_of item ∷ []) s.entries ∙ sym (map-append entry_of items (item ∷ []))

-- the store with one lawful entry more
pub stands_more : {D : Type 0} (old new : Store D) (items : List Item) (item : Item) → StandsFor old items → Lawful old.keyring items item → new.keyring ≡ old.keyring
    → IsTable (messages_in (items ++ item ∷ [])) (kept_in new.table)
    → new.history.entries.items ≡ old.history.entries.items ++ entry_of item ∷ []
    → ((q : Rid) → StandsKnown (get rid_cmp new.repositories q) q (items ++ item ∷ [])) → StandsFor new (items ++ item ∷ [])
stands_more old new items item s lawful k table e each = record {
  entries = entries_more old new items item s e;
  each = each;
  table = table;
  legal = subst (λ (keyring : Contents). Legal keyring (items ++ item ∷ [])) (sym k) (legal_more old.keyring [] items item s.legal lawful);
}

-- a disk without a doubt may have one
without_doubt : (bodies : List (List ℕ)) (doubt : Option (List ℕ)) (image : List ℕ) → HasBodies bodies image → MayHave bodies doubt image
without_doubt bodies None image has = has
without_doubt bodies (Some body) image has = inl has

-- a stop before any event
at_start : (keyring : Contents) (core : Core) (events : List Event) (image : List ℕ) → MayHave (bodies_of (durable_part core.items)) (body_in_doubt core.doubt) image
    → IsLeftDuring keyring core events image
at_start keyring core events image has = record { past = []; rest = events; all = refl; now = core; runs = refl; has = has }

-- a stop behind a mend
behind_mend : (keyring : Contents) (core : Core) (events : List Event) (image : List ℕ) → HasBodies (bodies_of (durable_part core.items)) image
    → IsLeftDuring keyring core (mends ∷ events) image
behind_mend keyring core events image has =
    let mended : Core = record { items = core.items; doubt = None } in
    record { past = mends ∷ []; rest = events; all = refl; now = mended; runs = (mended, refl, refl); has = has }

-- a stop behind every event
at_end : (keyring : Contents) (core : Core) (events : List Event) (image : List ℕ) (next : Core) → Runs keyring core events next
    → MayHave (bodies_of (durable_part next.items)) (body_in_doubt next.doubt) image → IsLeftDuring keyring core events image
at_end keyring core events image next runs has = record { past = events; rest = []; all = sym (append-nil events); now = next; runs = runs; has = has }

module _ {D : Type 0} (reads : D → Option (List ℕ)) (images : D → List ℕ → Type 0) (moment : D → ℕ) (since : D → ℕ → List ℕ → Type 0) (now : (disk : D) (image : List ℕ) → since disk (moment disk) image → images disk image) (old new : Store D) (core : Core) (s : StandsFor old core.items)
    (k : new.keyring ≡ old.keyring) where
  -- no call of the disk
  pub still : (events : List Event) → new.journal ≡ old.journal → IsOnDisk reads images old core
      → LeavesOnlyBetween moment since old.journal.disk new.journal.disk (IsLeftDuring old.keyring core events)
  still events j h =
      let bodies = bodies_of (durable_part core.items) in
      let doubt = body_in_doubt core.doubt in
      let disk = old.journal.disk in
      subst (λ (x : Journal D). LeavesOnlyBetween moment since disk x.disk (IsLeftDuring old.keyring core events)) (sym j)
      (leaves_none (IsLeft bodies doubt old.journal.end) (IsLeftDuring old.keyring core events) (moment disk) (reads disk) (since disk) (images disk)
      (λ bytes left. at_start old.keyring core events bytes (left_has bodies doubt old.journal.end bytes left)) h.tells (now disk))

  -- what is said of a call's moments
  during : (events : List Event) (P : List (List ℕ) → Option (List ℕ) → List ℕ → Type 0)
      → ((image : List ℕ) → P (bodies_of (durable_part core.items)) (body_in_doubt core.doubt) image → IsLeftDuring old.keyring core events image)
      → CrashLeaves reads images moment since old.journal new.journal P → IsOnDisk reads images old core
      → LeavesOnlyBetween moment since old.journal.disk new.journal.disk (IsLeftDuring old.keyring core events)
  during events P each time h =
      let bodies = bodies_of (durable_part core.items) in
      let doubt = body_in_doubt core.doubt in
      leaves_more (P bodies doubt) (IsLeftDuring old.keyring core events) (moment old.journal.disk) (moment new.journal.disk) (since old.journal.disk) (since new.journal.disk)
      each (time bodies doubt h)

  -- an entry that was entered
  pub entered : (item : Item) → IsDurable item → Lawful old.keyring core.items item → IsTable (messages_in (core.items ++ item ∷ [])) (kept_in new.table)
      → new.history.entries.items ≡ old.history.entries.items ++ entry_of item ∷ []
      → ((q : Rid) → StandsKnown (get rid_cmp new.repositories q) q (core.items ++ item ∷ []))
      → ((bodies : List (List ℕ)) (doubt : Option (List ℕ)) → Holds reads images old.journal bodies doubt → Holds reads images new.journal (bodies ++ body_of item ∷ []) None)
      → CrashLeaves reads images moment since old.journal new.journal (MendedMayHave {T = Unit {0}} (Ok tt) (body_of item))
      → Moves reads images moment since old new core (mends ∷ enters item ∷ [])
  entered item durable lawful table e each holds time =
      let mended : Core = record { items = core.items; doubt = None } in
      let next : Core = record { items = core.items ++ item ∷ []; doubt = None } in
      let runs : Runs old.keyring core (mends ∷ enters item ∷ []) next = (mended, refl, (next, (refl, durable, lawful, refl), refl)) in
      record {
        next = next;
        runs = runs;
        stands = stands_more old new core.items item s lawful k table e each;
        disk = λ h. subst (λ (bodies : List (List ℕ)). Holds reads images new.journal bodies None) (sym (bodies_more core.items item durable))
            (holds (bodies_of (durable_part core.items)) (body_in_doubt core.doubt) h);
        time = during (mends ∷ enters item ∷ []) (MendedMayHave {T = Unit {0}} (Ok tt) (body_of item)) (λ image has. elim has [
          | inl may ↦ at_start old.keyring core (mends ∷ enters item ∷ []) image may
          | inr (inl none) ↦ behind_mend old.keyring core (enters item ∷ []) image none
          | inr (inr one) ↦
              at_end old.keyring core (mends ∷ enters item ∷ []) image next runs
              (subst (λ (bodies : List (List ℕ)). HasBodies bodies image) (sym (bodies_more core.items item durable)) one)
        ]) time;
      }

  -- an entry that is left in doubt
  pub doubted : (of : Option Rid) (caller : ℕ) (item : Item) → IsDurable item → Lawful old.keyring core.items item → kept_in new.table ≡ kept_in old.table
      → new.history.entries.items ≡ old.history.entries.items ++ Missed of (left_of item) caller ∷ []
      → ((q : Rid) → StandsKnown (get rid_cmp new.repositories q) q core.items)
      → ((bodies : List (List ℕ)) (doubt : Option (List ℕ)) → Holds reads images old.journal bodies doubt → Holds reads images new.journal bodies (Some (body_of item)))
      → CrashLeaves reads images moment since old.journal new.journal (MendedMayHave {T = Unit {0}} (Err (faults.DiskFault true)) (body_of item))
      → Moves reads images moment since old new core (mends ∷ doubts of caller item ∷ [])
  doubted of caller item durable lawful t e each holds time =
      let note = missed of (left_of item) caller in
      let mended : Core = record { items = core.items; doubt = None } in
      let next : Core = record { items = core.items ++ note ∷ []; doubt = Some item } in
      let events = mends ∷ doubts of caller item ∷ [] in
      let runs : Runs old.keyring core events next = (mended, refl, (next, (refl, durable, lawful, refl), refl)) in
      record {
        next = next;
        runs = runs;
        stands = stands_more old new core.items note s tt k (table_more (kept_in old.table) (kept_in new.table) core.items note refl t s.table) e (each_missed new.repositories core.items of (left_of item) caller each);
        disk = λ h. subst (λ (bodies : List (List ℕ)). Holds reads images new.journal bodies (Some (body_of item))) (sym (bodies_missed core.items of (left_of item) caller))
            (holds (bodies_of (durable_part core.items)) (body_in_doubt core.doubt) h);
        time = during events (MendedMayHave {T = Unit {0}} (Err (faults.DiskFault true)) (body_of item)) (λ image has. elim has [
          | inl may ↦ at_start old.keyring core events image may
          | inr (inl none) ↦ behind_mend old.keyring core (doubts of caller item ∷ []) image none
          | inr (inr one) ↦
              at_end old.keyring core events image next runs
              (inr (subst (λ (bodies : List (List ℕ)). HasBodies (bodies ++ body_of item ∷ []) image) (sym (bodies_missed core.items of (left_of item) caller)) one))
        ]) time;
      }

  -- what a fault that leaves nothing new leaves, by what the journal knows
  settled : (bodies : List (List ℕ)) (doubt : Option (List ℕ))
      → Holds reads images new.journal bodies None ⊎ Holds reads images new.journal bodies doubt → new.journal.in_doubt ≡ false → Holds reads images new.journal bodies None
  settled bodies doubt (inl none) f = none
  settled bodies None (inr same) f = same
  settled bodies (Some body) (inr same) f = absurd (let flag = same.flag in cc)

  doubtful : (bodies : List (List ℕ)) (doubt : Option (List ℕ))
      → Holds reads images new.journal bodies None ⊎ Holds reads images new.journal bodies doubt → new.journal.in_doubt ≡ true → Holds reads images new.journal bodies doubt
  doubtful bodies doubt (inr same) f = same
  doubtful bodies doubt (inl none) f = absurd (let flag = none.flag in cc)

  -- a fault that leaves nothing new
  missed_nothing : (of : Option Rid) (caller : ℕ) → kept_in new.table ≡ kept_in old.table → new.history.entries.items ≡ old.history.entries.items ++ Missed of lefts.Nothing caller ∷ []
      → ((q : Rid) → StandsKnown (get rid_cmp new.repositories q) q core.items)
      → ((bodies : List (List ℕ)) (doubt : Option (List ℕ)) → Holds reads images old.journal bodies doubt
      → Holds reads images new.journal bodies None ⊎ Holds reads images new.journal bodies doubt)
      → (body : List ℕ) → CrashLeaves reads images moment since old.journal new.journal (MendedMayHave {T = Unit {0}} (Err (faults.DiskFault false)) body)
      → Moves reads images moment since old new core (mends ∷ misses of caller ∷ []) ⊎ Moves reads images moment since old new core (misses of caller ∷ [])
  missed_nothing of caller t e each holds body time = by_flag new.journal.in_doubt refl
    where
      note : Item
      note = missed of lefts.Nothing caller

      stands : StandsFor new (core.items ++ missed of lefts.Nothing caller ∷ [])
      stands = stands_more old new core.items (missed of lefts.Nothing caller) s tt k
          (table_more (kept_in old.table) (kept_in new.table) core.items note refl t s.table) e (each_missed new.repositories core.items of lefts.Nothing caller each)

      by_flag : (flag : Bool) → new.journal.in_doubt ≡ flag
          → Moves reads images moment since old new core (mends ∷ misses of caller ∷ []) ⊎ Moves reads images moment since old new core (misses of caller ∷ [])
      by_flag false f =
          let mended : Core = record { items = core.items; doubt = None } in
          let next : Core = record { items = core.items ++ missed of lefts.Nothing caller ∷ []; doubt = None } in
          inl (record {
            next = next;
            runs = (mended, refl, (next, refl, refl));
            stands = stands;
            disk = λ h. subst (λ (bodies : List (List ℕ)). Holds reads images new.journal bodies None) (sym (bodies_missed core.items of lefts.Nothing caller))
                (settled (bodies_of (durable_part core.items)) (body_in_doubt core.doubt) (holds (bodies_of (durable_part core.items)) (body_in_doubt core.doubt) h) f);
            time = during (mends ∷ misses of caller ∷ []) (MendedMayHave {T = Unit {0}} (Err (faults.DiskFault false)) body) (λ image has. elim has [
              | inl may ↦ at_start old.keyring core (mends ∷ misses of caller ∷ []) image may
              | inr none ↦ behind_mend old.keyring core (misses of caller ∷ []) image none
            ]) time;
          })
      by_flag true f =
          let next : Core = record { items = core.items ++ missed of lefts.Nothing caller ∷ []; doubt = core.doubt } in
          inr (record {
            next = next;
            runs = (next, refl, refl);
            stands = stands;
            disk = λ h. subst (λ (bodies : List (List ℕ)). Holds reads images new.journal bodies (body_in_doubt core.doubt)) (sym (bodies_missed core.items of lefts.Nothing caller))
                (doubtful (bodies_of (durable_part core.items)) (body_in_doubt core.doubt) (holds (bodies_of (durable_part core.items)) (body_in_doubt core.doubt) h) f);
            time = during (misses of caller ∷ []) (MendedMayHave {T = Unit {0}} (Err (faults.DiskFault false)) body) (λ image has. elim has [
              | inl may ↦ at_start old.keyring core (misses of caller ∷ []) image may
              | inr none ↦
                  at_start old.keyring core (misses of caller ∷ []) image
                  (without_doubt (bodies_of (durable_part core.items)) (body_in_doubt core.doubt) image none)
            ]) time;
          })

  -- a call that a fault of the disk refused
  pub fault_left : (of : Option Rid) (caller : ℕ) (item : Item) (in_doubt : Bool) → IsDurable item → Lawful old.keyring core.items item → kept_in new.table ≡ kept_in old.table
      → new.history.entries.items ≡ old.history.entries.items ++ missed_entry (entry_of item) of caller in_doubt ∷ []
      → ((q : Rid) → StandsKnown (get rid_cmp new.repositories q) q core.items)
      → ((bodies : List (List ℕ)) (doubt : Option (List ℕ)) → Holds reads images old.journal bodies doubt
      → LeavesDoubt reads images bodies doubt (body_of item) new.journal (faults.DiskFault in_doubt))
      → CrashLeaves reads images moment since old.journal new.journal (MendedMayHave {T = Unit {0}} (Err (faults.DiskFault in_doubt)) (body_of item))
      → IsRefusedCall reads images moment since old new core of caller item DiskFault
  fault_left of caller item true durable lawful t e each left time =
      inl (doubted of caller item durable lawful t (e ∙ ap (λ (l : Left). old.history.entries.items ++ Missed of l caller ∷ []) (left_is item durable)) each left time)
  fault_left of caller item false durable lawful t e each left time = inr (missed_nothing of caller t e each left (body_of item) time)

  -- nothing happened
  pub nothing_done : kept_in new.table ≡ kept_in old.table → new.history.entries.items ≡ old.history.entries.items → new.journal ≡ old.journal → ((q : Rid) → StandsKnown (get rid_cmp new.repositories q) q core.items)
      → Moves reads images moment since old new core []
  nothing_done t e j each = record {
    next = core;
    runs = refl;
    stands = record { entries = e ∙ s.entries; each = each; table = subst (λ (table : Keeping). IsTable (messages_in core.items) table) (sym t) s.table; legal = subst (λ (keyring : Contents). Legal keyring core.items) (sym k) s.legal };
    disk = λ h. subst (λ (x : Journal D). Holds reads images x (bodies_of (durable_part core.items)) (body_in_doubt core.doubt)) (sym j) h;
    time = still [] j;
  }
