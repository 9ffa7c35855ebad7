-- What an import of a whole bundle leaves, by the verdict on its offer.
use Rattle.std.proofs.Common.{◌≡◌, ◌⊎◌, ℕ, List, [], ◌∷◌, ◌++◌, Option, None, Some, Result, Ok, Err, IsSomeAnd, inl, inr, refl, sym, ap, ◌∙◌, subst}
use Rattle.std.specs.List.{AllByRecursion}
use Rattle.std.specs.Option.{ForSome}
use Rattle.std.specs.Io.KnownBytes.{Consumes, IsAtEnd}
use Rattle.rad_base.proofs.EachItem.{each_between}
use Rattle.rad_base.specs.declared.names.Rid.{Rid}
use Rattle.commit_graph.specs.Objects.{Object, ObjectMap}
use Rattle.keyring.specs.Contents.{Contents}
use Rattle.ref_journal.specs.Moments.{HasBodies}
use Rattle.repo_entries.specs.Items.{Item, claim, heard, install, left_of, missed, put, refused}
use Rattle.repo_entries.specs.declared.whole.Whole.{Whole}
use Rattle.repo_slice.specs.Heads.{IsHeadOf}
use Rattle.repo_slice.specs.Keeps.{Constants, Held, HeldBehind, ToldAlike, item_of}
use Rattle.repo_slice.specs.declared.keep_fault.KeepFault.{KeepFault}
use Rattle.repo_slice.specs.declared.verdict.Judged.{Judged}
use Rattle.entry_bodies.specs.Bodies.{HasBody}
use Rattle.legal_history.specs.Durable.{durable_part}
use Rattle.object_store.specs.Bodies.{bodies_of}
use Rattle.object_store.specs.Opened.{IsStoreImage}
use Rattle.store_keep.specs.Made.{IsImageOf}
use Rattle.fetch_wire.specs.Bundles.{Bundle}
use Rattle.fetch_stages.specs.Imports.{Bad, Came, Inside, Long, Unjudged, Verdict}
use Rattle.fetch_stages.specs.JobLaws.{IsUnjudged}
use Rattle.fetch_stages.specs.Puts.{puts_of}
use Rattle.fetch_stages.specs.declared.job_end.JobEnd.{JobEnd}
use Rattle.fetch_stages.specs.declared.job_end.JobEnd.TheVariants as job
use Rattle.report_texts.specs.Texts.{job_text}
use Rattle.store_reports.specs.Reports.{IsGeneratedReport}
use Rattle.rad_node.specs.Completeness.{AreEntries, AreInOrder, IsAcceptance, IsBundle, IsEntered, ReportsBundle, objects_with}
use Rattle.rad_node.specs.Imports.{Imported, IsMadeOf, IsRefusing, IsReportable, IsReported, IsTaking, IsWholeRun, TellsEnd, fault_of, importing}
use Rattle.rad_node.specs.Runs.{HasReport}
use Rattle.rad_node.specs.Statuses.{Files}
use Rattle.rad_node.specs.declared.status.Status.{Status}
use Rattle.rad_node.specs.declared.status.Status.TheVariants as status
use Rattle.rad_node.proofs.Completing.{bundle_short, is_front, same_files, told, whole_read}
use Rattle.rad_node.proofs.Spelled.{bundle_job, held_with}

-- an entry that tells of no refused call
abbrev IsUnmissed : Item → Type 0
IsUnmissed (missed of left caller) = ⊥
IsUnmissed other = Unit {0}

-- such are those of a store that is opened
body_unmissed : (item : Item) → HasBody item → IsUnmissed item
body_unmissed (claim rid caller) has = tt
body_unmissed (put rid batch caller) has = tt
body_unmissed (install rid id remotes caller) has = tt
body_unmissed (heard message caller) has = tt
body_unmissed (missed of left caller) has = has
body_unmissed (refused rid why caller) has = tt

-- and those that a bundle makes
verdict_unmissed : (rid : Rid) (caller : ℕ) (verdict : Result Judged Whole) → IsUnmissed (item_of rid caller verdict)
verdict_unmissed rid caller (Ok judged) = tt
verdict_unmissed rid caller (Err why) = tt

puts_unmissed : (rid : Rid) (caller : ℕ) (batches : List (List Object)) (last : List Item) → AllByRecursion IsUnmissed last
    → AllByRecursion IsUnmissed (puts_of rid caller batches ++ last)
puts_unmissed rid caller [] last has = has
puts_unmissed rid caller (batch ∷ batches) last has = (tt, puts_unmissed rid caller batches last has)

entries_unmissed : (bundle : Bundle) (verdict : Result Judged Whole) (entries : List Item) → AreEntries bundle verdict entries → AllByRecursion IsUnmissed entries
entries_unmissed bundle verdict entries a =
    let rid = bundle.rid in
    let last = item_of rid 1 verdict ∷ [] in
    subst (λ (l : List Item). AllByRecursion IsUnmissed l) (sym a.all)
    (puts_unmissed rid 1 a.identity (puts_of rid 1 a.sigs ++ (puts_of rid 1 a.tips ++ last))
    (puts_unmissed rid 1 a.sigs (puts_of rid 1 a.tips ++ last) (puts_unmissed rid 1 a.tips last (verdict_unmissed rid 1 verdict, tt))))

all_unmissed : (stored entries : List Item) → AllByRecursion HasBody stored → AllByRecursion IsUnmissed entries → AllByRecursion IsUnmissed (stored ++ entries)
all_unmissed [] entries has each = each
all_unmissed (item ∷ stored) entries has each = (body_unmissed item has.0, all_unmissed stored entries has.1 each)

-- with no call refused, an image has all of them
whole_image : (items : List Item) (image : List ℕ) → AllByRecursion IsUnmissed items → IsImageOf items image → HasBodies (bodies_of (durable_part items)) image
whole_image items image each (inl has) = has
whole_image items image each (inr x) =
    let left = x.1 in
    absurd (each_between IsUnmissed left.before (missed (Some left.rid) (left_of x.0) left.caller) left.behind
    (subst (λ (l : List Item). AllByRecursion IsUnmissed l) left.all each))

-- a run with a report met no fault of the store, and took the bundle to where its job stopped
no_fault : (result : Status) → HasReport result → (fault_of result ≡ None) × IsWholeRun result
no_fault status.Ok r = (refl, tt)
no_fault status.Usage r = absurd r
no_fault (status.ReadFault which) r = absurd r
no_fault status.WriteFault r = (refl, tt)
no_fault status.DiskFault r = absurd r
no_fault status.Unmade r = absurd r
no_fault (status.Damaged place) r = absurd r
no_fault (status.KeyringBad line) r = absurd r
no_fault (status.InputBad place) r = absurd r
no_fault status.SomeRefused r = (refl, tt)
no_fault status.Full r = absurd r
no_fault (status.NotLegal n) r = absurd r
no_fault status.AlreadyMade r = absurd r
no_fault (status.Changed change) r = absurd r
no_fault status.NoMemory r = absurd r

-- it came to the end of its input, or the bundle is too long
reported_came : (at_end : Type 0) (came : Came) → IsReportable at_end came → (at_end × (IsUnjudged came → ⊥)) ⊎ ((rid : Rid) × (came ≡ Long rid))
reported_came at_end (Bad place) r = absurd r
reported_came at_end (Inside place) r = absurd r
reported_came at_end (Verdict rid on verdict) r = inl (r, λ u. absurd (cc u.1))
reported_came at_end (Unjudged rid) r = absurd r
reported_came at_end (Long rid) r = inr (rid, refl)

-- an end that is told of a verdict is of its repository
tells_named : (constants : Constants) (rid other : Rid) (on : Held) (verdict : Result Judged Whole) (end : JobEnd) → TellsEnd constants (Verdict rid on verdict) other end
    → other ≡ rid
tells_named constants rid other on verdict (job.Done these head) t = cc t.1
tells_named constants rid other on verdict (job.Refused why) t = cc t.1
tells_named constants rid other on verdict job.TooLong t = absurd (cc t)
tells_named constants rid other on verdict job.DiskFault t = absurd t
tells_named constants rid other on verdict job.Full t = absurd t
tells_named constants rid other on verdict (job.Changed change) t = absurd t
tells_named constants rid other on verdict job.NoMemory t = absurd t

-- what is said of objects that are told alike is said of these
alike : (objects : ObjectMap) (others : Option ObjectMap) (P : ObjectMap → Type 0) → ToldAlike (Some objects) others → ForSome others P → P objects
alike objects None P same each = absurd same
alike objects (Some those) P same each = subst P (λ i oid. sym (same oid) i) (each those refl)

module _ (keyring : Contents) (stored : List Item) (bundle : Bundle) (entries : List Item) where
  -- the end that is told of a verdict
  tells_judged : (judged : Judged) (other : Rid) (text : List ℕ) (end : JobEnd) → TellsEnd (importing keyring) (Verdict bundle.rid (held_with stored bundle) (Ok judged)) other end
      → text ≡ job_text other end → ReportsBundle None keyring stored bundle (Ok judged) entries text
  tells_judged judged other text (job.Done these head) t written =
      let held : t.0 ≡ held_with stored bundle = cc t.1 in
      let same : these ≡ judged = cc t.1 in
      let named : other ≡ bundle.rid = cc t.1 in
      let now = t.2.0 in
      let behind : HeldBehind (held_with stored bundle) (Ok judged) now =
      subst (λ (j : Judged). HeldBehind (held_with stored bundle) (Ok j) now) same (subst (λ (h : Held). HeldBehind h (Ok these) now) held t.2.1) in (
        now.state,
        head,
        behind.0,
        alike (objects_with stored bundle) now.objects (λ (objects : ObjectMap). IsHeadOf objects keyring now.state (Some head)) behind.1 t.2.2,
        written ∙ ap (λ (r : Rid). job_text r (job.Done these head)) named ∙ ap (λ (j : Judged). job_text bundle.rid (job.Done j head)) same,
      )
  tells_judged judged other text (job.Refused why) t written = absurd (cc t.1)
  tells_judged judged other text job.TooLong t written = absurd (cc t)
  tells_judged judged other text job.DiskFault t written = absurd t
  tells_judged judged other text job.Full t written = absurd t
  tells_judged judged other text (job.Changed change) t written = absurd t
  tells_judged judged other text job.NoMemory t written = absurd t

  tells_refused : (why : Whole) (other : Rid) (text : List ℕ) (end : JobEnd) → TellsEnd (importing keyring) (Verdict bundle.rid (held_with stored bundle) (Err why)) other end
      → text ≡ job_text other end → text ≡ job_text bundle.rid (job.Refused why)
  tells_refused why other text (job.Done these head) t written = absurd (cc t.1)
  tells_refused why other text (job.Refused whole) t written =
      let same : whole ≡ why = cc t.1 in
      let named : other ≡ bundle.rid = cc t.1 in
      written ∙ ap (λ (r : Rid). job_text r (job.Refused whole)) named ∙ ap (λ (w : Whole). job_text bundle.rid (job.Refused w)) same
  tells_refused why other text job.TooLong t written = absurd (cc t)
  tells_refused why other text job.DiskFault t written = absurd t
  tells_refused why other text job.Full t written = absurd t
  tells_refused why other text (job.Changed change) t written = absurd t
  tells_refused why other text job.NoMemory t written = absurd t

  reports_bundle : (counted : Option ℕ) (verdict : Result Judged Whole) (P : List ℕ → Type 0) (store : Option (List ℕ)) (other : Rid) (text : List ℕ) → IsSomeAnd store P
      → IsReported counted store keyring (stored ++ entries) (Verdict bundle.rid (held_with stored bundle) verdict) other text
      → ReportsBundle counted keyring stored bundle verdict entries text
  reports_bundle None (Ok judged) P store other text some r = tells_judged judged other text r.end r.tells r.written
  reports_bundle None (Err why) P store other text some r = tells_refused why other text r.end r.tells r.written
  reports_bundle (Some commits) verdict P store other text some r =
      let report = told P (λ (bytes : List ℕ). IsGeneratedReport keyring (stored ++ entries) other commits text) store some r.2 in
      subst (λ (q : Rid). IsGeneratedReport keyring (stored ++ entries) q commits text)
      (tells_named (importing keyring) bundle.rid other (held_with stored bundle) verdict r.0 r.1) report.2

-- what is reported is reported of the same
reported_else : (counted : Option ℕ) (store : Option (List ℕ)) (keyring other : Contents) (items those : List Item) (came whole : Came) (rid : Rid) (text : List ℕ)
    → other ≡ keyring → those ≡ items → came ≡ whole → IsReported counted store other those came rid text → IsReported counted store keyring items whole rid text
reported_else counted store keyring other items those came whole rid text keys same is r =
    subst (λ (c : Came). IsReported counted store keyring items c rid text) is
    (subst (λ (l : List Item). IsReported counted store keyring l came rid text) same (subst (λ (k : Contents). IsReported counted store k those came rid text) keys r))

-- by the verdict a run takes all or refuses something
accepts : (at_end : Type 0) (rid : Rid) (on : Held) (verdict : Result Judged Whole) → IsTaking at_end (Verdict rid on verdict) → IsAcceptance verdict
accepts at_end rid on (Ok judged) t = t.0
accepts at_end rid on (Err why) t = t

refuses : (at_end : Type 0) (rid : Rid) (on : Held) (verdict : Result Judged Whole) → IsRefusing at_end (Verdict rid on verdict) → IsAcceptance verdict → ⊥
refuses at_end rid on (Ok judged) r a = r.0 a
refuses at_end rid on (Err why) r a = a

module _ (counted : Option ℕ) (files : Files) (keyring : Contents) (stored : List Item) (bundle : Bundle) (verdict : Result Judged Whole) (entries : List Item)
    (all : List ℕ) (left : Option (List ℕ)) (images : List ℕ → Type 0) (leaves : (List ℕ → Type 0) → Type 0) (gives : List ℕ → Type 0) (result : Status)
    (order : AreInOrder files keyring stored) (report : HasReport result) (is : IsBundle keyring stored bundle verdict entries all) where
  -- the run read the whole bundle
  reads_whole : (i : Imported counted files (Consumes (Some all) left) (IsAtEnd left) images leaves gives result)
      → (i.entries ≡ entries) × (i.came ≡ Verdict bundle.rid (held_with stored bundle) verdict)
  reads_whole i =
      let rid = bundle.rid in
      let on = held_with stored bundle in
      let f = is_front counted files keyring stored rid on verdict entries all left images leaves gives result order (bundle_job keyring stored bundle verdict entries all is) i in
      elim (reported_came (IsAtEnd left) i.came (i.ended report)) [
        | inl x ↦ whole_read keyring stored rid on verdict entries left i.bytes i.unread i.entries i.came f (i.whole (no_fault result report).1) x.0 x.1
        | inr x ↦ absurd (bundle_short keyring stored rid on verdict entries left i.bytes i.unread i.entries i.came x.0 f x.1)
      ]

  pub entered : Imported counted files (Consumes (Some all) left) (IsAtEnd left) images leaves gives result
      → IsEntered counted keyring stored bundle verdict entries images gives result
  entered i =
      let rid = bundle.rid in
      let on = held_with stored bundle in
      let same = same_files files keyring i.keyring stored i.stored order i.good in
      let whole = reads_whole i in
      let made : i.history ≡ i.entries = subst (λ (o : Option KeepFault). IsMadeOf o i.rid i.end i.entries i.history) (no_fault result report).0 i.made in
      let items : i.stored ++ i.history ≡ stored ++ entries =
      ap (λ (l : List Item). l ++ i.history) same.1 ∙ ap (λ (l : List Item). stored ++ l) (made ∙ whole.0) in
      let store = told (λ (bytes : List ℕ). IsStoreImage bytes stored) (λ (bytes : List ℕ). (image : List ℕ) → images image → IsImageOf (i.stored ++ i.history) image)
      files.store order.store i.images_are in
      let r = i.report report in
      record {
        images_are = λ image has. whole_image (stored ++ entries) image (all_unmissed stored entries store.1.had_bodies (entries_unmissed bundle verdict entries is.makes))
            (subst (λ (l : List Item). IsImageOf l image) items (store.2 image has));
        text = r.0;
        reports = reports_bundle keyring stored bundle entries counted verdict (λ (bytes : List ℕ). IsStoreImage bytes stored) files.store i.rid r.0 order.store
            (reported_else counted files.store keyring i.keyring (stored ++ entries) (i.stored ++ i.history) i.came (Verdict rid on verdict) i.rid r.0 same.0 items whole.1 r.1);
        given = r.2;
        ok = λ e. accepts (IsAtEnd left) rid on verdict (subst (λ (c : Came). IsTaking (IsAtEnd left) c) whole.1 (i.ok e));
        refused = λ e. refuses (IsAtEnd left) rid on verdict (subst (λ (c : Came). IsRefusing (IsAtEnd left) c) whole.1 (i.refused e));
      }
