-- Runs whose files and bundle are in order: how they end, and what an import of an accepted offer leaves.
use Rattle.std.specs.Prelude.{◌≡◌, ◌≤◌, ℕ, ◌+◌, ◌^◌, List, [], ◌∷◌, ◌++◌, IsSomeAnd, Option, None, Some, Result, Ok, Err, length}
use Rattle.std.specs.Io.KnownBytes.{Consumes, IsAtEnd}
use Rattle.canonical_head.specs.declared.answer.Head.{Head}
use Rattle.commit_graph.specs.Objects.{Object, ObjectMap}
use Rattle.keyring.specs.Contents.{Contents}
use Rattle.ref_journal.specs.Frames.{gate_behind}
use Rattle.ref_journal.specs.Images.{IsUnmade}
use Rattle.ref_journal.specs.Moments.{HasBodies}
use Rattle.repo_entries.specs.Items.{Item}
use Rattle.repo_entries.specs.declared.whole.Whole.{Whole}
use Rattle.repo_slice.specs.Heads.{IsHeadOf}
use Rattle.repo_slice.specs.Keeps.{item_of, put_behind}
use Rattle.repo_slice.specs.Verdicts.{IsNextState, IsVerdict}
use Rattle.repo_slice.specs.declared.scope.Scope.TheVariants.{All}
use Rattle.repo_slice.specs.declared.state.State.{State}
use Rattle.repo_slice.specs.declared.verdict.Judged.{Judged}
use Rattle.legal_history.specs.Durable.{durable_part}
use Rattle.legal_history.specs.Histories.{Legal}
use Rattle.legal_history.specs.Replays.{replay, replayed_state}
use Rattle.object_store.specs.Bodies.{bodies_of}
use Rattle.object_store.specs.Opened.{IsStoreImage}
use Rattle.fetch_wire.specs.Bundles.{Bundle, SpellsBundle}
use Rattle.fetch_stages.specs.Batches.{IsCut}
use Rattle.fetch_stages.specs.Puts.{puts_of}
use Rattle.fetch_stages.specs.declared.job_end.JobEnd.TheVariants as job
use Rattle.rad_vectors.specs.Generated.{generated}
use Rattle.rad_vectors.specs.Repositories.{IsBundleOf}
use Rattle.report_texts.specs.Texts.{job_text}
use Rattle.store_reports.specs.Reports.{IsGeneratedReport}
use Rattle.rad_node.specs.Done.{IsDone}
use Rattle.rad_node.specs.Imports.{AreTaken}
use Rattle.rad_node.specs.Listing.{IsRecording}
use Rattle.rad_node.specs.Statuses.{Files, IsCaused, IsSaid, SaysKeyring, TakesBundle, TakesMemory, files_of}
use Rattle.rad_node.specs.declared.command.Command.{Command}
use Rattle.rad_node.specs.declared.command.Command.TheVariants.{Init, Import, Show, Heads, Audit, Frames, Gen}
use Rattle.rad_node.specs.declared.status.Status.{Status}
use Rattle.rad_node.specs.declared.status.Status.TheVariants as status

-- the keyring file is told and says this; the store is told, and is a journal of these entries, which are legal
pub record AreInOrder (files : Files) (keyring : Contents) (stored : List Item) : Type 0 where
  pub keys : IsSomeAnd files.keyring (λ file. SaysKeyring file keyring)
  pub store : IsSomeAnd files.store (λ bytes. IsStoreImage bytes stored)
  pub legal : Legal keyring stored

-- the objects of a bundle's repository by these entries, with those of its sections put behind them in order: a held
-- name keeps its object
abbrev pub objects_with : List Item → Bundle → ObjectMap
objects_with stored bundle =
    put_behind (put_behind (put_behind (replay bundle.rid stored).objects bundle.identity) bundle.sigs) bundle.tips

-- the entries that a bundle makes, by its verdict: puts of the objects of each section, cut into batches, and last the
-- entry of the verdict
pub record AreEntries (bundle : Bundle) (verdict : Result Judged Whole) (entries : List Item) : Type 0 where
  pub identity : List (List Object)
  pub sigs : List (List Object)
  pub tips : List (List Object)
  pub identity_cut : IsCut bundle.identity identity
  pub sigs_cut : IsCut bundle.sigs sigs
  pub tips_cut : IsCut bundle.tips tips
  pub all : entries ≡ puts_of bundle.rid 1 identity ++ (puts_of bundle.rid 1 sigs
      ++ (puts_of bundle.rid 1 tips ++ item_of bundle.rid 1 verdict ∷ []))

-- These bytes spell the bundle and nothing more, within the limit of its sections. On what is held once its objects are
-- put, this is the verdict on its offer, and these are the entries that it makes. A journal of the stored entries and of
-- these is within its limit, also with one more record of no bytes.
pub record IsBundle (keyring : Contents) (stored : List Item) (bundle : Bundle) (verdict : Result Judged Whole)
    (entries : List Item) (bytes : List ℕ) : Type 0 where
  pub spells : SpellsBundle bundle bytes
  pub short : length bytes ≤ 20 + 2 ^ 30
  pub verdict_is : IsVerdict (objects_with stored bundle) keyring (replayed_state bundle.rid stored) bundle.offer All verdict
  pub makes : AreEntries bundle verdict entries
  pub room : gate_behind (bodies_of (durable_part (stored ++ entries))) + 10 ≤ 2 ^ 40

-- these bytes are a bundle with some verdict
abbrev pub IsSomeBundle : Contents → List Item → List ℕ → Type 0
IsSomeBundle keyring stored bytes =
    (bundle : Bundle) × (verdict : Result Judged Whole) × (entries : List Item) × IsBundle keyring stored bundle verdict entries bytes

-- the bundle that a command takes is such: that of its input, where it is told; or each that is made by rule
abbrev pub TakesSuch : Command → Option (List ℕ) → (List ℕ → Type 0) → Type 0
TakesSuch Init input IsSuch = Unit {0}
TakesSuch Import input IsSuch = IsSomeAnd input IsSuch
TakesSuch Show input IsSuch = Unit {0}
TakesSuch Heads input IsSuch = Unit {0}
TakesSuch Audit input IsSuch = Unit {0}
TakesSuch Frames input IsSuch = Unit {0}
TakesSuch (Gen commits) input IsSuch = (bundle : List ℕ) → IsBundleOf (generated commits) bundle → IsSuch bundle

-- the files by which a command works are in order, and so is the bundle that it takes
abbrev pub IsInOrderBy : Command → Files → Option (List ℕ) → Type 0
IsInOrderBy command files input = (keyring : Contents) × (stored : List Item)
    × AreInOrder (files_of command files) keyring stored × TakesSuch command input (IsSomeBundle keyring stored)

-- the same; `init` makes a store where none is made, and `frames` lists an input of frames
abbrev pub IsInOrder : Command → Files → Option (List ℕ) → Type 0
IsInOrder Init files input = IsSomeAnd files.store IsUnmade
IsInOrder Frames files input = IsSomeAnd input IsRecording
IsInOrder other files input = IsInOrderBy other files input

-- What is ensured of the run of a command that ended so: a fault has its cause, what is said of the files is so, and
-- what was done.
pub record HasEnded (command : Command) (files : Files) (input left : Option (List ℕ)) (keys read disk out : Type 0)
    (images : List ℕ → Type 0) (leaves : (List ℕ → Type 0) → Type 0) (gives : List ℕ → Type 0) (kept : Type 0)
    (result : Status) : Type 0 where
  pub cause : IsCaused result keys read disk out
  pub said : IsSaid command (files_of command files) result
  pub done : IsDone command files (Consumes input left) (IsAtEnd left) images leaves gives kept result

-- no call of the keyring's source, the bundle's, the disk or the sink failed
abbrev pub IsFaultless : Type 0 → Type 0 → Type 0 → Type 0 → Type 0
IsFaultless keys read disk out = (keys → ⊥) × (read → ⊥) × (disk → ⊥) × (out → ⊥)

-- all was done; or the offer or one of its remotes was refused, of a command that takes a bundle; or memory was refused
abbrev pub EndsWell : Command → Status → Type 0
EndsWell command status.Ok = Unit {0}
EndsWell command status.SomeRefused = TakesBundle command
EndsWell command status.NoMemory = TakesMemory command
EndsWell command other = ⊥

-- the number of commits, where a command counts them
abbrev pub counted_by : Command → Option ℕ
counted_by (Gen commits) = Some commits
counted_by other = None

-- a verdict refuses neither the offer nor one of its remotes
abbrev pub IsAcceptance : Result Judged Whole → Type 0
IsAcceptance (Ok judged) = AreTaken judged.outcomes
IsAcceptance (Err why) = ⊥

-- What is reported of a bundle. Where its offer was judged, it is what became of each remote, and the head of the next
-- state; where it was refused whole, why. Where commits are counted, it is what all entries make of the repository.
abbrev pub ReportsBundle : Option ℕ → Contents → List Item → Bundle → Result Judged Whole → List Item → List ℕ → Type 0
ReportsBundle None keyring stored bundle (Ok judged) entries text =
    (next : State) × (head : Head) × IsNextState (replayed_state bundle.rid stored) judged next
    × IsHeadOf (objects_with stored bundle) keyring next (Some head) × (text ≡ job_text bundle.rid (job.Done judged head))
ReportsBundle None keyring stored bundle (Err why) entries text = text ≡ job_text bundle.rid (job.Refused why)
ReportsBundle (Some commits) keyring stored bundle verdict entries text =
    IsGeneratedReport keyring (stored ++ entries) bundle.rid commits text

-- A bundle was entered. Every image that a crash now may leave is a journal of the durable part of the stored entries
-- and of all that the bundle makes: where its offer was judged, the last is the install of the next identity and of the
-- remotes that advanced. Its report is given, and the status tells whether the offer or one of its remotes was refused.
pub record IsEntered (counted : Option ℕ) (keyring : Contents) (stored : List Item) (bundle : Bundle)
    (verdict : Result Judged Whole) (entries : List Item) (images gives : List ℕ → Type 0) (result : Status) : Type 0 where
  pub images_are : (image : List ℕ) → images image → HasBodies (bodies_of (durable_part (stored ++ entries))) image
  pub text : List ℕ
  pub reports : ReportsBundle counted keyring stored bundle verdict entries text
  pub given : gives text
  pub ok : result ≡ status.Ok → IsAcceptance verdict
  pub refused : result ≡ status.SomeRefused → IsAcceptance verdict → ⊥
