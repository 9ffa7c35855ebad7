-- What an import is, by how its job ended and how the run ended.
use Rattle.std.proofs.Common.{◌≡◌, ◌⊎◌, ◌↔◌, Bool, ℕ, List, [], ◌∷◌, ◌++◌, ⊎_elim, Option, None, Some, inl, inr, refl, sym, ap, ◌∙◌, subst}
use Rattle.std.specs.Prelude.{IsSome, Contains, IsTrue, length}
use Rattle.std.proofs.lemmas.List.{append_cancel_left}
use Rattle.rad_base.proofs.Conditions.{differ}
use Rattle.rad_base.specs.declared.names.Nid.{Nid}
use Rattle.rad_base.specs.declared.names.Rid.{Rid}
use Rattle.ref_journal.specs.Frames.{gate_behind}
use Rattle.ref_journal.specs.Holds.{LeavesOnlyBetween}
use Rattle.ref_journal.specs.Images.{IsLeft}
use Rattle.keyring.specs.Contents.{Contents}
use Rattle.repo_entries.specs.Items.{Item, claim, heard, install, missed, put, refused}
use Rattle.repo_slice.specs.Keeps.{IsStopped}
use Rattle.repo_slice.specs.declared.keep_fault.KeepFault.{KeepFault}
use Rattle.repo_slice.specs.declared.keep_fault.KeepFault.TheVariants as fault
use Rattle.repo_slice.specs.declared.outcomes.Outcome.{Outcome}
use Rattle.repo_slice.specs.declared.outcomes.Outcome.TheVariants as outcome
use Rattle.repo_slice.specs.Heads.{IsHeadOf}
use Rattle.legal_history.specs.Durable.{durable_part}
use Rattle.legal_history.specs.Replays.{Standing, after_item, after_items, nothing_stands, replay, state_in}
use Rattle.object_store.specs.Bodies.{bodies_of, body_in_doubt}
use Rattle.object_store.specs.declared.store.Store.{Store}
use Rattle.store_keep.specs.Made.{EndsWithin, IsImageOf, IsMade, IsPastImage, ReopensLegal, Start, no_claims}
use Rattle.store_keep.proofs.Claimless.{no_claims_durable}
use Rattle.store_keep.proofs.Imaging.{image_legal, image_of}
use Rattle.fetch_stages.specs.declared.job_end.ImportEnd.{ImportEnd}
use Rattle.fetch_stages.specs.declared.job_end.ImportEnd.TheVariants as import
use Rattle.fetch_stages.specs.declared.job_end.JobEnd.{JobEnd}
use Rattle.fetch_stages.specs.declared.job_end.JobEnd.TheVariants as job
use Rattle.store_reports.specs.Reports.{IsGeneratedReport}
use Rattle.rad_node.specs.Imports.{AreTaken, Imported, IsBadInput, IsReported, TellsImport, TellsJob, IsJobReportEnd, IsMadeOf, IsRefusedEnd, IsRefusing, IsReportable, IsStatusOf, IsTaken, IsTaking, IsWholeRun, TellsEnd, fault_of, importing}
use Rattle.std.specs.Io.KnownBytes.{Consumes, IsAtEnd}
use Rattle.rad_vectors.specs.Generated.{generated}
use Rattle.rad_vectors.specs.Repositories.{IsBundleOf}
use Rattle.rad_node.specs.Generating.{ImportsGenerated}
use Rattle.rad_node.specs.Jobs.{HasRun, IsEndCaused}
use Rattle.rad_node.specs.Runs.{HasReport, IsReportEnd}
use Rattle.rad_node.specs.Statuses.{Files, generated_keyring}
use Rattle.rad_node.specs.declared.status.Status.{Status}
use Rattle.rad_node.specs.declared.status.Status.TheVariants as status
use Rattle.rad_node.specs.declared.status.WhichSource.TheVariants as source
use Rattle.rad_node.proofs.Running.{all_made, if_told}

left_end : (bodies : List (List ℕ)) (doubt : Option (List ℕ)) (end : ℕ) (bytes : List ℕ) → IsLeft bodies doubt end bytes → end ≡ gate_behind bodies
left_end bodies None end bytes h = h.begins.place_is
left_end bodies (Some body) end bytes h = h.begins.place_is

-- the journal ends behind what is durable
made_end : {D : Type 0} (reads : D → Option (List ℕ)) (images : D → List ℕ → Type 0) (moment : D → ℕ) (since : D → ℕ → List ℕ → Type 0) (store : Store D) (start : Start D) (items : List Item)
    → IsMade reads images moment since store start items
    → store.journal.end ≡ gate_behind (bodies_of (durable_part items))
made_end reads images moment since store start items m =
    let same : durable_part items ≡ durable_part m.core.items = ap durable_part m.entries ∙ no_claims_durable m.core.items in
    left_end (bodies_of (durable_part m.core.items)) (body_in_doubt m.core.doubt) store.journal.end m.disk.tells.bytes m.disk.tells.has
    ∙ ap (λ (l : List Item). gate_behind (bodies_of l)) (sym same)

-- a report of a job's end has the end of a run that reports it
pub job_report_end : (end : JobEnd) (some : Bool) (out : Type 0) (s : Status) → (IsTrue some ↔ IsRefusedEnd end) → IsReportEnd some out s
    → IsJobReportEnd end out s
job_report_end end some out s iff (inl x) = inl (x.0, λ r. differ some (iff.1 r) x.1)
job_report_end end some out s iff (inr (inl x)) = inr (inl (x.0, iff.0 x.1))
job_report_end end some out s iff (inr (inr x)) = inr (inr (inl x))

-- a run with a report took the bundle to where its job stopped
whole_report : (s : Status) → HasReport s → IsWholeRun s
whole_report status.Ok r = tt
whole_report status.Usage r = absurd r
whole_report (status.ReadFault which) r = absurd r
whole_report status.WriteFault r = tt
whole_report status.DiskFault r = absurd r
whole_report status.Unmade r = absurd r
whole_report (status.Damaged place) r = absurd r
whole_report (status.KeyringBad line) r = absurd r
whole_report (status.InputBad place) r = absurd r
whole_report status.SomeRefused r = tt
whole_report status.Full r = absurd r
whole_report (status.NotLegal n) r = absurd r
whole_report status.AlreadyMade r = absurd r
whole_report (status.Changed change) r = absurd r
whole_report status.NoMemory r = absurd r

-- the place that a status tells
one_place : (place other : ℕ) → status.InputBad place ≡ status.InputBad other → place ≡ other
one_place place other e = cc e

-- no remote was refused, since it is not so that one was
taken_or_not : (o : Outcome) → (IsTaken o) ⊎ (IsTaken o → ⊥)
taken_or_not outcome.OutOfScope = inl tt
taken_or_not outcome.Same = inl tt
taken_or_not outcome.Stale = inl tt
taken_or_not (outcome.Missing oid) = inr (λ h. h)
taken_or_not (outcome.BadObject oid) = inr (λ h. h)
taken_or_not outcome.BadSigrefs = inr (λ h. h)
taken_or_not outcome.NotAccepted = inr (λ h. h)
taken_or_not outcome.Grafted = inr (λ h. h)
taken_or_not outcome.Forked = inr (λ h. h)
taken_or_not (outcome.Incomplete oid) = inr (λ h. h)
taken_or_not outcome.Crowded = inr (λ h. h)
taken_or_not outcome.Advanced = inl tt

all_taken : (outcomes : List (Nid × Outcome)) → ((AreTaken outcomes → ⊥) → ⊥) → AreTaken outcomes
all_taken [] free = tt
all_taken (remote ∷ outcomes) free = ⊎_elim
    (λ (one : IsTaken remote.1). (one, all_taken outcomes (λ bars. free (λ h. bars h.1))))
    (λ (none : IsTaken remote.1 → ⊥). absurd (free (λ h. none h.0))) (taken_or_not remote.1)

-- claims change nothing of what stands
claimless_replay : (rid : Rid) (s : Standing) (items : List Item) → after_items rid s (no_claims items) ≡ after_items rid s items
claimless_replay rid s [] = refl
claimless_replay rid s (claim of caller ∷ items) = claimless_replay rid s items
claimless_replay rid s (put of batch caller ∷ items) = claimless_replay rid (after_item rid s (put of batch caller)) items
claimless_replay rid s (install of id remotes caller ∷ items) = claimless_replay rid (after_item rid s (install of id remotes caller)) items
claimless_replay rid s (heard message caller ∷ items) = claimless_replay rid s items
claimless_replay rid s (missed of left caller ∷ items) = claimless_replay rid s items
claimless_replay rid s (refused of why caller ∷ items) = claimless_replay rid s items

-- nor of what is reported
claimless_report : (keyring : Contents) (items : List Item) (rid : Rid) (commits : ℕ) (text : List ℕ) → IsGeneratedReport keyring items rid commits text
    → IsGeneratedReport keyring (no_claims items) rid commits text
claimless_report keyring items rid commits text r =
    let same : replay rid (no_claims items) ≡ replay rid items = claimless_replay rid nothing_stands items in
    record {
      counts = r.counts;
      made = r.made;
      objects = record {
        pairs = r.objects.pairs;
        rising = r.objects.rising;
        exact = λ of oid. subst (λ (t : Standing). Contains r.objects.pairs (of, oid) ↔ ((of ≡ rid) × IsSome (t.objects oid))) (sym same) (r.objects.exact of oid);
        counted = r.objects.counted;
      };
      entries = r.entries ∙ sym (ap length (no_claims_durable items));
      head = r.head;
      found = subst (λ (t : Standing). IsHeadOf t.objects keyring (state_in rid t) r.head) (sym same) r.found;
      written = r.written;
    }

module _ {D : Type 0} (reads : D → Option (List ℕ)) (images : D → List ℕ → Type 0) (moment : D → ℕ) (since : D → ℕ → List ℕ → Type 0) (first : D) (files : Files) (store : Store D) (at_end out : Type 0)
    (counted : Option ℕ) (consumed gives : List ℕ → Type 0) where
  -- where the entries are told from
  abbrev start : {result : ImportEnd} → HasRun reads images moment since first files consumed at_end store result → Start D
  start h = record { disk = first; items = h.stored }

  imported_by : (s : Status) (result : ImportEnd) (h : HasRun reads images moment since first files consumed at_end store result) → (IsWholeRun s → h.unread ≡ [])
      → ((place : ℕ) → s ≡ status.InputBad place → IsBadInput at_end h.came place) → (s ≡ status.Ok → IsTaking at_end h.came)
      → (s ≡ status.SomeRefused → IsRefusing at_end h.came) → IsMadeOf (fault_of s) h.rid store.journal.end h.entries h.history
      → (HasReport s → IsReportable at_end h.came)
      → (HasReport s → (text : List ℕ) × IsReported counted files.store store.keyring (h.stored ++ h.history) h.came h.rid text × gives text)
      → Imported counted files consumed at_end (images store.journal.disk) (LeavesOnlyBetween moment since first store.journal.disk) gives s
  imported_by s result h whole bad ok refusing made ended report =
      let all = h.stored ++ h.history in
      record {
        keyring = store.keyring;
        stored = h.stored;
        good = h.good;
        bytes = h.bytes;
        unread = h.unread;
        took = h.took;
        whole = whole;
        entries = h.entries;
        came = h.came;
        job = h.job;
        bad = bad;
        ok = ok;
        refused = refusing;
        rid = h.rid;
        named = h.named;
        end = store.journal.end;
        history = h.history;
        made = made;
        room = if_told (λ bytes. IsMade reads images moment since store (start h) all) (λ bytes. EndsWithin store.journal.end h.history) files.store
            (λ bytes m. subst (EndsWithin store.journal.end) (sym (append_cancel_left h.stored h.history m.added m.all)) m.room) h.store_has;
        end_is = if_told (λ bytes. IsMade reads images moment since store (start h) all) (λ bytes. store.journal.end ≡ gate_behind (bodies_of (durable_part all))) files.store
            (λ bytes m. made_end reads images moment since store (start h) all m) h.store_has;
        images_are = if_told (λ bytes. IsMade reads images moment since store (start h) all) (λ bytes. (image : List ℕ) → images store.journal.disk image → IsImageOf all image) files.store
            (λ bytes m. image_of reads images moment since store (start h) all m) h.store_has;
        legal = if_told (λ bytes. IsMade reads images moment since store (start h) all) (λ bytes. (image : List ℕ) → images store.journal.disk image → ReopensLegal store.keyring image)
            files.store (λ bytes m. image_legal reads images moment since store (start h) all m) h.store_has;
        moments = if_told (λ bytes. IsMade reads images moment since store (start h) all)
            (λ bytes. LeavesOnlyBetween moment since first store.journal.disk (IsPastImage store.keyring h.stored all)) files.store (λ bytes m. m.time) h.store_has;
        ended = ended;
        report = report;
      }

  -- what is told of the job is reported
  report_told : (told : Option ℕ) (result : ImportEnd) (h : HasRun reads images moment since first files consumed at_end store result) (end : JobEnd) (text : List ℕ)
      → TellsEnd (importing store.keyring) h.came h.rid end → TellsJob told store h.rid end text
      → IsReported told files.store store.keyring (h.stored ++ h.history) h.came h.rid text
  report_told None result h end text tells t = record { end = end; tells = tells; written = t }
  report_told (Some commits) result h end text tells t = (
    end,
    tells,
    if_told (λ bytes. IsMade reads images moment since store (start h) (h.stored ++ h.history)) (λ bytes. IsGeneratedReport store.keyring (h.stored ++ h.history) h.rid commits text)
        files.store (λ bytes m. subst (λ (l : List Item). IsGeneratedReport store.keyring l h.rid commits text) (sym m.entries)
        (claimless_report store.keyring m.core.items h.rid commits text (t m.core.items m.stands))) h.store_has,
  )

  is_reported : (result : ImportEnd) (h : HasRun reads images moment since first files consumed at_end store result) (end : JobEnd)
      → TellsEnd (importing store.keyring) h.came h.rid end → (text : List ℕ) × TellsJob counted store h.rid end text × gives text
      → (text : List ℕ) × IsReported counted files.store store.keyring (h.stored ++ h.history) h.came h.rid text × gives text
  is_reported result h end tells t = (t.0, report_told counted result h end t.0 tells t.1, t.2)

  -- the run reports how the job ended
  reported : (s : Status) (result : ImportEnd) (h : HasRun reads images moment since first files consumed at_end store result) (end : JobEnd) → h.unread ≡ [] → IsReportable at_end h.came
      → TellsEnd (importing store.keyring) h.came h.rid end → h.history ≡ h.entries → ((IsRefusedEnd end → ⊥) → IsTaking at_end h.came)
      → (IsRefusedEnd end → IsRefusing at_end h.came) → IsJobReportEnd end out s → (HasReport s → (text : List ℕ) × TellsJob counted store h.rid end text × gives text)
      → Imported counted files consumed at_end (images store.journal.disk) (LeavesOnlyBetween moment since first store.journal.disk) gives s
  reported s result h end none ended tells all taking refusing (inl x) gave =
      subst (λ (t : Status). Imported counted files consumed at_end (images store.journal.disk) (LeavesOnlyBetween moment since first store.journal.disk) gives t) (sym x.0)
      (imported_by status.Ok result h (λ w. none) (λ place e. absurd (cc e)) (λ e. taking x.1) (λ e. absurd (cc e)) all (λ r. ended)
      (λ r. is_reported result h end tells (gave (subst HasReport (sym x.0) tt))))
  reported s result h end none ended tells all taking refusing (inr (inl x)) gave =
      subst (λ (t : Status). Imported counted files consumed at_end (images store.journal.disk) (LeavesOnlyBetween moment since first store.journal.disk) gives t) (sym x.0)
      (imported_by status.SomeRefused result h (λ w. none) (λ place e. absurd (cc e)) (λ e. absurd (cc e)) (λ e. refusing x.1) all (λ r. ended)
      (λ r. is_reported result h end tells (gave (subst HasReport (sym x.0) tt))))
  reported s result h end none ended tells all taking refusing (inr (inr (inl x))) gave =
      subst (λ (t : Status). Imported counted files consumed at_end (images store.journal.disk) (LeavesOnlyBetween moment since first store.journal.disk) gives t) (sym x.0)
      (imported_by status.WriteFault result h (λ w. none) (λ place e. absurd (cc e)) (λ e. absurd (cc e)) (λ e. absurd (cc e)) all (λ r. ended)
      (λ r. is_reported result h end tells (gave (subst HasReport (sym x.0) tt))))
  reported s result h end none ended tells all taking refusing (inr (inr (inr x))) gave =
      subst (λ (t : Status). Imported counted files consumed at_end (images store.journal.disk) (LeavesOnlyBetween moment since first store.journal.disk) gives t) (sym x)
      (imported_by status.NoMemory result h (λ w. none) (λ place e. absurd (cc e)) (λ e. absurd (cc e)) (λ e. absurd (cc e))
      (all_made h.rid store.journal.end h.entries h.history all) (λ r. absurd r) (λ r. absurd r))

  -- a call of the store was refused
  stopped : (s : Status) (why : KeepFault) (result : ImportEnd) (h : HasRun reads images moment since first files consumed at_end store result)
      → IsStopped h.rid 1 store.journal.end h.entries why h.history → fault_of s ≡ Some why → (IsWholeRun s → ⊥)
      → Imported counted files consumed at_end (images store.journal.disk) (LeavesOnlyBetween moment since first store.journal.disk) gives s
  stopped s why result h made e bars =
      imported_by s result h (λ w. absurd (bars w)) (λ place f. absurd (bars (subst IsWholeRun (sym f) tt))) (λ f. absurd (bars (subst IsWholeRun (sym f) tt)))
      (λ f. absurd (bars (subst IsWholeRun (sym f) tt))) (subst (λ (o : Option KeepFault). IsMadeOf o h.rid store.journal.end h.entries h.history) (sym e) made)
      (λ r. absurd (bars (whole_report s r))) (λ r. absurd (bars (whole_report s r)))

  pub imported : (s : Status) (result : ImportEnd) → (input disk : Type 0) → IsEndCaused input disk result
      → HasRun reads images moment since first files consumed at_end store result → IsStatusOf out result s → (HasReport s → (text : List ℕ) × TellsImport counted store result text × gives text)
      → Imported counted files consumed at_end (images store.journal.disk) (LeavesOnlyBetween moment since first store.journal.disk) gives s
  imported s (import.Ended of (job.Done judged head)) input disk c h x gave =
      let tells = h.made.1 in
      reported s (import.Ended of (job.Done judged head)) h (job.Done judged head) (h.whole tt) (subst (IsReportable at_end) (sym tells.1) h.made.2) tells h.made.3
      (λ free. subst (IsTaking at_end) (sym tells.1) (all_taken judged.outcomes free, h.made.2))
      (λ bars. subst (IsRefusing at_end) (sym tells.1) (bars, h.made.2)) x
      (λ r. subst (λ (q : Rid). (text : List ℕ) × TellsJob counted store q (job.Done judged head) text × gives text) h.made.0 (gave r))
  imported s (import.Ended of (job.Refused why)) input disk c h x gave =
      let tells = h.made.1 in
      reported s (import.Ended of (job.Refused why)) h (job.Refused why) (h.whole tt) (subst (IsReportable at_end) (sym tells.1) h.made.2) tells h.made.3 (λ free. absurd (free tt))
      (λ bars. subst (IsRefusing at_end) (sym tells.1) h.made.2) x
      (λ r. subst (λ (q : Rid). (text : List ℕ) × TellsJob counted store q (job.Refused why) text × gives text) h.made.0 (gave r))
  imported s (import.Ended of job.TooLong) input disk c h x gave =
      reported s (import.Ended of job.TooLong) h job.TooLong (h.whole tt) (subst (IsReportable at_end) (sym h.made.1) tt) h.made.1 h.made.2 (λ free. absurd (free tt))
      (λ bars. subst (IsRefusing at_end) (sym h.made.1) tt) x
      (λ r. subst (λ (q : Rid). (text : List ℕ) × TellsJob counted store q job.TooLong text × gives text) h.made.0 (gave r))
  imported s (import.Ended of job.DiskFault) input disk c h x gave =
      subst (λ (t : Status). Imported counted files consumed at_end (images store.journal.disk) (LeavesOnlyBetween moment since first store.journal.disk) gives t) (sym x)
      (stopped status.DiskFault fault.DiskFault (import.Ended of job.DiskFault) h h.made refl (λ w. w))
  imported s (import.Ended of job.Full) input disk c h x gave =
      subst (λ (t : Status). Imported counted files consumed at_end (images store.journal.disk) (LeavesOnlyBetween moment since first store.journal.disk) gives t) (sym x)
      (stopped status.Full fault.Full (import.Ended of job.Full) h h.made refl (λ w. w))
  imported s (import.Ended of (job.Changed change)) input disk c h x gave = absurd c
  imported s (import.Ended of job.NoMemory) input disk c h x gave =
      subst (λ (t : Status). Imported counted files consumed at_end (images store.journal.disk) (LeavesOnlyBetween moment since first store.journal.disk) gives t) (sym x)
      (stopped status.NoMemory fault.NoMemory (import.Ended of job.NoMemory) h h.made refl (λ w. w))
  imported s import.ReadFault input disk c h x gave =
      subst (λ (t : Status). Imported counted files consumed at_end (images store.journal.disk) (LeavesOnlyBetween moment since first store.journal.disk) gives t) (sym x)
      (imported_by (status.ReadFault source.Input) import.ReadFault h (λ w. absurd w) (λ place e. absurd (cc e)) (λ e. absurd (cc e)) (λ e. absurd (cc e)) h.made
      (λ r. absurd r) (λ r. absurd r))
  imported s (import.InputBad place) input disk c h x gave =
      subst (λ (t : Status). Imported counted files consumed at_end (images store.journal.disk) (LeavesOnlyBetween moment since first store.journal.disk) gives t) (sym x)
      (imported_by (status.InputBad place) (import.InputBad place) h (λ w. h.whole tt)
      (λ other e. subst (IsBadInput at_end h.came) (one_place place other e) h.made.0) (λ e. absurd (cc e)) (λ e. absurd (cc e)) h.made.1 (λ r. absurd r) (λ r. absurd r))
  imported s import.NoMemory input disk c h x gave =
      subst (λ (t : Status). Imported counted files consumed at_end (images store.journal.disk) (LeavesOnlyBetween moment since first store.journal.disk) gives t) (sym x)
      (stopped status.NoMemory fault.NoMemory import.NoMemory h h.made refl (λ w. w))

-- what is said of a run's moments is said otherwise
pub imported_else : (counted : Option ℕ) (files : Files) (consumed : List ℕ → Type 0) (at_end : Type 0) (images : List ℕ → Type 0) (these those : (List ℕ → Type 0) → Type 0)
    (gives : List ℕ → Type 0) (s : Status) → ((P : List ℕ → Type 0) → these P → those P) → Imported counted files consumed at_end images these gives s
    → Imported counted files consumed at_end images those gives s
imported_else counted files consumed at_end images these those gives s more i = record {
  keyring = i.keyring;
  stored = i.stored;
  good = i.good;
  bytes = i.bytes;
  unread = i.unread;
  took = i.took;
  whole = i.whole;
  entries = i.entries;
  came = i.came;
  job = i.job;
  bad = i.bad;
  ok = i.ok;
  refused = i.refused;
  rid = i.rid;
  named = i.named;
  end = i.end;
  history = i.history;
  made = i.made;
  room = i.room;
  end_is = i.end_is;
  images_are = i.images_are;
  legal = i.legal;
  moments =
      let past = IsPastImage i.keyring i.stored (i.stored ++ i.history) in
      if_told (λ bytes. these past) (λ bytes. those past) files.store (λ bytes m. more past m) i.moments;
  ended = i.ended;
  report = i.report;
}

-- the import of a repository that is made by rule
pub imports_generated : (commits : ℕ) (store : Option (List ℕ)) (images : List ℕ → Type 0) (leaves : (List ℕ → Type 0) → Type 0) (gives : List ℕ → Type 0) (s : Status) (keyring bundle : List ℕ)
    (left : Option (List ℕ)) → keyring ≡ generated_keyring commits → IsBundleOf (generated commits) bundle
    → Imported (Some commits) (record { keyring = Some keyring; store = store }) (Consumes (Some bundle) left) (IsAtEnd left) images leaves gives s
    → ImportsGenerated commits store images leaves gives s
imports_generated commits store images leaves gives s keyring bundle left same is i = record {
  bundle = bundle;
  is = is;
  left = left;
  imported = subst (λ (k : List ℕ). Imported (Some commits) (record { keyring = Some k; store = store }) (Consumes (Some bundle) left) (IsAtEnd left) images leaves gives s) same i;
}
