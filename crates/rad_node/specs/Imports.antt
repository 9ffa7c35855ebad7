-- What an import of a bundle into a store makes, and what it reports.
use Rattle.std.specs.Prelude.{◌≡◌, ◌⊎◌, ◌<◌, ℕ, List, [], ◌++◌, true, length, Option, None, Some, Ok, Err, IfSome}
use Rattle.std.specs.List.{AllByRecursion}
use Rattle.rad_base.specs.declared.names.Nid.{Nid}
use Rattle.rad_base.specs.declared.names.Rid.{Rid}
use Rattle.keyring.specs.Contents.{Contents}
use Rattle.ref_journal.specs.Frames.{gate_behind}
use Rattle.repo_entries.specs.Items.{Item}
use Rattle.repo_slice.specs.Keeps.{Constants, Held, HeldBehind, IsStopped}
use Rattle.repo_slice.specs.declared.keep_fault.KeepFault.{KeepFault}
use Rattle.repo_slice.specs.declared.keep_fault.KeepFault.TheVariants as fault
use Rattle.repo_slice.specs.declared.outcomes.Outcome.{Outcome}
use Rattle.repo_slice.specs.declared.outcomes.Outcome.TheVariants as outcome
use Rattle.legal_history.specs.Durable.{durable_part}
use Rattle.object_store.specs.Bodies.{bodies_of}
use Rattle.object_store.specs.Held.{held_in}
use Rattle.object_store.specs.Stores.{StandsFor}
use Rattle.object_store.specs.declared.store.Store.{Store}
use Rattle.store_keep.specs.Made.{EndsWithin, IsImageOf, IsPastImage, ReopensLegal}
use Rattle.fetch_stages.specs.Imports.{Bad, Came, Inside, IsBundleJob, IsHeadOn, IsNamedBy, Long, Unjudged, Verdict}
use Rattle.fetch_stages.specs.declared.job_end.ImportEnd.{ImportEnd}
use Rattle.fetch_stages.specs.declared.job_end.ImportEnd.TheVariants as import
use Rattle.fetch_stages.specs.declared.job_end.JobEnd.{JobEnd}
use Rattle.fetch_stages.specs.declared.job_end.JobEnd.TheVariants as job
use Rattle.report_texts.specs.Texts.{job_text}
use Rattle.store_reports.specs.Reports.{IsGeneratedReport}
use Rattle.rad_node.specs.Runs.{HasReport}
use Rattle.rad_node.specs.Statuses.{AreGood, Files}
use Rattle.rad_node.specs.declared.status.Status.{Status}
use Rattle.rad_node.specs.declared.status.Status.TheVariants as status
use Rattle.rad_node.specs.declared.status.WhichSource.TheVariants as source

-- what the entries of a store make of each repository
abbrev pub held_behind : List Item → Rid → Held
held_behind items rid = held_in rid items

-- by what an import's job runs: the keyring, the caller 1, and each repository
abbrev pub importing : Contents → Constants
importing keyring = record { keyring = keyring; caller = 1; stands = λ rid. true }

-- what became of a remote is no refusal
abbrev pub IsTaken : Outcome → Type 0
IsTaken outcome.OutOfScope = Unit {0}
IsTaken outcome.Same = Unit {0}
IsTaken outcome.Stale = Unit {0}
IsTaken (outcome.Missing oid) = ⊥
IsTaken (outcome.BadObject oid) = ⊥
IsTaken outcome.BadSigrefs = ⊥
IsTaken outcome.NotAccepted = ⊥
IsTaken outcome.Grafted = ⊥
IsTaken outcome.Forked = ⊥
IsTaken (outcome.Incomplete oid) = ⊥
IsTaken outcome.Crowded = ⊥
IsTaken outcome.Advanced = Unit {0}

-- no remote was refused
abbrev pub AreTaken : List (Nid × Outcome) → Type 0
AreTaken outcomes = AllByRecursion (λ remote. IsTaken remote.1) outcomes

-- the offer of a job or one of its remotes was refused
abbrev pub IsRefusedEnd : JobEnd → Type 0
IsRefusedEnd (job.Done judged head) = AreTaken judged.outcomes → ⊥
IsRefusedEnd (job.Refused why) = Unit {0}
IsRefusedEnd job.TooLong = Unit {0}
IsRefusedEnd job.DiskFault = Unit {0}
IsRefusedEnd job.Full = Unit {0}
IsRefusedEnd (job.Changed change) = Unit {0}
IsRefusedEnd job.NoMemory = Unit {0}

-- by its bytes an import takes all that the bundle offers, and nothing follows the bundle
abbrev pub IsTaking : Type 0 → Came → Type 0
IsTaking at_end (Bad place) = ⊥
IsTaking at_end (Inside place) = ⊥
IsTaking at_end (Verdict rid on (Ok judged)) = AreTaken judged.outcomes × at_end
IsTaking at_end (Verdict rid on (Err why)) = ⊥
IsTaking at_end (Unjudged rid) = ⊥
IsTaking at_end (Long rid) = ⊥

-- by its bytes an import refuses the offer or one of its remotes, and nothing follows the bundle; or the
-- bundle is too long
abbrev pub IsRefusing : Type 0 → Came → Type 0
IsRefusing at_end (Bad place) = ⊥
IsRefusing at_end (Inside place) = ⊥
IsRefusing at_end (Verdict rid on (Ok judged)) = (AreTaken judged.outcomes → ⊥) × at_end
IsRefusing at_end (Verdict rid on (Err why)) = at_end
IsRefusing at_end (Unjudged rid) = ⊥
IsRefusing at_end (Long rid) = Unit {0}

-- by its bytes an import has a report: nothing follows the bundle, or it is too long
abbrev pub IsReportable : Type 0 → Came → Type 0
IsReportable at_end (Bad place) = ⊥
IsReportable at_end (Inside place) = ⊥
IsReportable at_end (Verdict rid on verdict) = at_end
IsReportable at_end (Unjudged rid) = ⊥
IsReportable at_end (Long rid) = Unit {0}

-- a unit is broken at this place, or the bundle has ended there and bytes follow, or the input ends inside
-- the unit there
abbrev pub IsBadInput : Type 0 → Came → ℕ → Type 0
IsBadInput at_end came place = (came ≡ Bad place) ⊎ ((came ≡ Inside place) × at_end)

-- the bytes begin with this repository's name, or have no whole name
abbrev pub MayName : List ℕ → Rid → Type 0
MayName bytes rid = (length bytes < 20) ⊎ IsNamedBy bytes rid

-- The end that a report tells of the job of these bytes: the verdict on the offer, with the head of what it
-- leaves; the refusal; or that it was too long.
abbrev pub TellsEnd : Constants → Came → Rid → JobEnd → Type 0
TellsEnd constants came rid (job.Done judged head) =
    (on : Held) × (came ≡ Verdict rid on (Ok judged))
    × ((now : Held) × HeldBehind on (Ok judged) now × IsHeadOn constants now head)
TellsEnd constants came rid (job.Refused why) = (on : Held) × (came ≡ Verdict rid on (Err why))
TellsEnd constants came rid job.TooLong = came ≡ Long rid
TellsEnd constants came rid job.DiskFault = ⊥
TellsEnd constants came rid job.Full = ⊥
TellsEnd constants came rid (job.Changed change) = ⊥
TellsEnd constants came rid job.NoMemory = ⊥

-- the report of an import: the block of its job
pub record IsImportReport (keyring : Contents) (came : Came) (rid : Rid) (text : List ℕ) : Type 0 where
  pub end : JobEnd
  pub tells : TellsEnd (importing keyring) came rid end
  pub written : text ≡ job_text rid end

-- the report of an import whose job ended so: the block of the job, or, where its commits were counted, what
-- stands of the repository
abbrev pub TellsJob : {D : Type 0} → Option ℕ → Store D → Rid → JobEnd → List ℕ → Type 0
TellsJob None store rid end text = text ≡ job_text rid end
TellsJob (Some commits) store rid end text =
    (items : List Item) → StandsFor store items → IsGeneratedReport store.keyring items rid commits text

-- the same of an import, where the end has a report
abbrev pub TellsImport : {D : Type 0} → Option ℕ → Store D → ImportEnd → List ℕ → Type 0
TellsImport counted store (import.Ended rid end) text = TellsJob counted store rid end text
TellsImport counted store import.ReadFault text = ⊥
TellsImport counted store (import.InputBad place) text = ⊥
TellsImport counted store import.NoMemory text = ⊥

-- what is reported behind these entries, where the store was told: the block of the job; or what they make of
-- the repository, and how many commits it has
abbrev pub IsReported : Option ℕ → Option (List ℕ) → Contents → List Item → Came → Rid → List ℕ → Type 0
IsReported None store keyring items came rid text = IsImportReport keyring came rid text
IsReported (Some commits) store keyring items came rid text =
    (end : JobEnd) × TellsEnd (importing keyring) came rid end
    × IfSome store (λ _. IsGeneratedReport keyring items rid commits text)

-- the end of a run that reports how its job ended
abbrev pub IsJobReportEnd : JobEnd → Type 0 → Status → Type 0
IsJobReportEnd end out result =
    ((result ≡ status.Ok) × (IsRefusedEnd end → ⊥)) ⊎ ((result ≡ status.SomeRefused) × IsRefusedEnd end)
    ⊎ ((result ≡ status.WriteFault) × out) ⊎ (result ≡ status.NoMemory)

-- the end of a run whose import ended so; a fault of the sink is that of its report
abbrev pub IsStatusOf : Type 0 → ImportEnd → Status → Type 0
IsStatusOf out (import.Ended rid (job.Done judged head)) result = IsJobReportEnd (job.Done judged head) out result
IsStatusOf out (import.Ended rid (job.Refused why)) result = IsJobReportEnd (job.Refused why) out result
IsStatusOf out (import.Ended rid job.TooLong) result = IsJobReportEnd job.TooLong out result
IsStatusOf out (import.Ended rid job.DiskFault) result = result ≡ status.DiskFault
IsStatusOf out (import.Ended rid job.Full) result = result ≡ status.Full
IsStatusOf out (import.Ended rid (job.Changed change)) result = result ≡ status.Changed change
IsStatusOf out (import.Ended rid job.NoMemory) result = result ≡ status.NoMemory
IsStatusOf out import.ReadFault result = result ≡ status.ReadFault source.Input
IsStatusOf out (import.InputBad place) result = result ≡ status.InputBad place
IsStatusOf out import.NoMemory result = result ≡ status.NoMemory

-- the end of a run that opened its store and took the bundle
abbrev pub IsImportEnd : Status → Type 0
IsImportEnd status.Ok = Unit {0}
IsImportEnd status.Usage = ⊥
IsImportEnd (status.ReadFault source.Keys) = ⊥
IsImportEnd (status.ReadFault source.Rules) = ⊥
IsImportEnd (status.ReadFault source.Input) = Unit {0}
IsImportEnd status.WriteFault = Unit {0}
IsImportEnd status.DiskFault = Unit {0}
IsImportEnd status.Unmade = ⊥
IsImportEnd (status.Damaged place) = ⊥
IsImportEnd (status.KeyringBad line) = ⊥
IsImportEnd (status.InputBad place) = Unit {0}
IsImportEnd status.SomeRefused = Unit {0}
IsImportEnd status.Full = Unit {0}
IsImportEnd (status.NotLegal n) = ⊥
IsImportEnd status.AlreadyMade = ⊥
IsImportEnd (status.Changed change) = ⊥
IsImportEnd status.NoMemory = Unit {0}

-- the refusal of a call of the store at which a run ended
abbrev pub fault_of : Status → Option KeepFault
fault_of status.DiskFault = Some fault.DiskFault
fault_of status.Full = Some fault.Full
fault_of status.NoMemory = Some fault.NoMemory
fault_of other = None

-- the entries that were made of those of the bundle's job: all, or those before the call that was refused
abbrev pub IsMadeOf : Option KeepFault → Rid → ℕ → List Item → List Item → Type 0
IsMadeOf None rid end entries history = history ≡ entries
IsMadeOf (Some why) rid end entries history = IsStopped rid 1 end entries why history

-- the run took the bundle to where its job stopped by its bytes
abbrev pub IsWholeRun : Status → Type 0
IsWholeRun status.Ok = Unit {0}
IsWholeRun status.SomeRefused = Unit {0}
IsWholeRun status.WriteFault = Unit {0}
IsWholeRun (status.InputBad place) = Unit {0}
IsWholeRun other = ⊥

-- The import of a bundle into a store that has these entries. The bundle's bytes were taken, and the job of
-- those that were read has its entries and its stop. Those that were made stand behind the stored ones: every
-- image that a crash now may leave is a journal of the durable part of both, or of it and the one entry in
-- doubt that the last missed one names, and has the bodies of a legal history. An image that a crash at any
-- moment of the run may have left is the same of the stored ones and some first of those that were made. Where one
-- of these is durable the journal is within its limit. Where a report was given it is that of the job's end, and
-- nothing follows the bundle or it is too long.
pub record Imported (counted : Option ℕ) (files : Files) (consumed : List ℕ → Type 0) (at_end : Type 0) (images : List ℕ → Type 0)
    (leaves : (List ℕ → Type 0) → Type 0) (gives : List ℕ → Type 0) (result : Status) : Type 0 where
  pub keyring : Contents
  pub stored : List Item
  pub good : AreGood files keyring stored
  pub bytes : List ℕ
  pub unread : List ℕ
  pub took : consumed (bytes ++ unread)
  pub whole : IsWholeRun result → unread ≡ []
  pub entries : List Item
  pub came : Came
  pub job : IsBundleJob (importing keyring) (held_behind stored) bytes entries came
  pub bad : (place : ℕ) → result ≡ status.InputBad place → IsBadInput at_end came place
  pub ok : result ≡ status.Ok → IsTaking at_end came
  pub refused : result ≡ status.SomeRefused → IsRefusing at_end came
  pub rid : Rid
  pub named : MayName bytes rid
  pub end : ℕ
  pub history : List Item
  pub made : IsMadeOf (fault_of result) rid end entries history
  pub room : IfSome files.store (λ _. EndsWithin end history)
  pub end_is : IfSome files.store (λ _. end ≡ gate_behind (bodies_of (durable_part (stored ++ history))))
  pub images_are : IfSome files.store (λ _. (image : List ℕ) → images image → IsImageOf (stored ++ history) image)
  pub legal : IfSome files.store (λ _. (image : List ℕ) → images image → ReopensLegal keyring image)
  pub moments : IfSome files.store (λ _. leaves (IsPastImage keyring stored (stored ++ history)))
  pub ended : HasReport result → IsReportable at_end came
  pub report : HasReport result → (text : List ℕ) × IsReported counted files.store keyring (stored ++ history) came rid text × gives text
