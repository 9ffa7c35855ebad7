-- What the reports of a store say. Each is the text of some data, and the data are read off what the entries make of
-- each repository.
use Rattle.std.specs.Prelude.{◌≡◌, ◌↔◌, ℕ, List, length, filter, sum_by, Contains, Option, Some, IsSome}
use Rattle.std.specs.List.{AllZip}
use Rattle.std.specs.List.Sorted.{IsStrictlySortedBy}
use Rattle.std.specs.Option.{is_some}
use Rattle.std.specs.Ordering.{ordering_then}
use Rattle.std.specs.declared.cmp.Ordering.{Ordering}
use Rattle.rad_base.specs.Order.{oid_cmp, rid_cmp}
use Rattle.rad_base.specs.declared.names.Nid.{Nid}
use Rattle.rad_base.specs.declared.names.Oid.{Oid}
use Rattle.rad_base.specs.declared.names.Rid.{Rid}
use Rattle.commit_graph.specs.Objects.{ObjectMap}
use Rattle.canonical_head.specs.declared.answer.Head.{Head}
use Rattle.keyring.specs.Contents.{Contents}
use Rattle.announcements.specs.Tables.{HasCount, IsTable, Keeping}
use Rattle.signed_refs.specs.Lines.{Line}
use Rattle.signed_refs.specs.Said.{Says}
use Rattle.repo_entries.specs.Items.{Item}
use Rattle.repo_slice.specs.Heads.{IsHeadOf}
use Rattle.legal_history.specs.Durable.{durable_part}
use Rattle.legal_history.specs.Replays.{messages_in, replay, replayed_state}
use Rattle.object_store.specs.Shown.{AreRisingRids, ShowsRepository}
use Rattle.report_texts.specs.Stored.{ShownRepository, audit_text, generated_text, heads_text, show_text}
use Rattle.report_texts.specs.declared.counts.Counts.{Counts}
use Rattle.report_texts.specs.declared.counts.Generated.{Generated}
use Rattle.report_texts.specs.declared.shown.ShownRemote.{ShownRemote}

-- the repositories that a put or an install names, rising
pub record AreRepositories (items : List Item) (rids : List Rid) : Type 0 where
  pub rising : AreRisingRids rids
  pub exact : (rid : Rid) → Contains rids rid ↔ ShowsRepository rid items

-- a remote, with the number of refs that its commit says
pub record IsShownRemote (objects : ObjectMap) (remote : Nid × Oid) (shown : ShownRemote) : Type 0 where
  pub node : shown.node ≡ remote.0
  pub commit : shown.commit ≡ remote.1
  pub refs : List Line
  pub said : Says objects remote.1 refs
  pub lines : shown.lines ≡ length refs

-- what the entries make of a repository: its identity or none, and each of its remotes
pub record IsShown (items : List Item) (rid : Rid) (shown : ShownRepository) : Type 0 where
  pub own : shown.rid ≡ rid
  pub id : shown.id ≡ (replay rid items).id
  pub remotes : AllZip (IsShownRemote (replay rid items).objects) (replay rid items).remotes shown.remotes

-- the text of each repository
pub record IsShowReport (items : List Item) (text : List ℕ) : Type 0 where
  pub rids : List Rid
  pub named : AreRepositories items rids
  pub shown : List ShownRepository
  pub each : AllZip (IsShown items) rids shown
  pub written : text ≡ show_text shown

-- those of the repositories that have an identity
abbrev pub with_identity : List Item → List Rid → List Rid
with_identity items rids = filter (λ rid. is_some (replay rid items).id) rids

-- a repository, with its canonical head
pub record IsHeadLine (keyring : Contents) (items : List Item) (rid : Rid) (line : Rid × Head) : Type 0 where
  pub own : line.0 ≡ rid
  pub head : IsHeadOf (replay rid items).objects keyring (replayed_state rid items) (Some line.1)

-- the text of each repository that has an identity
pub record IsHeadsReport (keyring : Contents) (items : List Item) (text : List ℕ) : Type 0 where
  pub rids : List Rid
  pub named : AreRepositories items rids
  pub lines : List (Rid × Head)
  pub each : AllZip (IsHeadLine keyring items) (with_identity items rids) lines
  pub written : text ≡ heads_text lines

-- how many remotes the entries make of a repository
abbrev pub remote_count : List Item → Rid → ℕ
remote_count items rid = length (replay rid items).remotes

-- the order of repositories' names, each with a name of an object
abbrev pub pair_cmp : Rid × Oid → Rid × Oid → Ordering
pair_cmp a b = ordering_then (rid_cmp a.0 b.0) (oid_cmp a.1 b.1)

-- how many names have an object, each counted once for each repository that has it
pub record CountsObjects (items : List Item) (count : ℕ) : Type 0 where
  pub pairs : List (Rid × Oid)
  pub rising : IsStrictlySortedBy pair_cmp pairs
  pub exact : (rid : Rid) (oid : Oid) → Contains pairs (rid, oid) ↔ IsSome ((replay rid items).objects oid)
  pub counted : count ≡ length pairs

-- how many announcements are kept of those that were heard
pub record CountsHeard (items : List Item) (count : ℕ) : Type 0 where
  pub table : Keeping
  pub is : IsTable (messages_in items) table
  pub counted : HasCount table count

-- the counts of a store: the entries are those that its journal has
pub record AreCounts (items : List Item) (counts : Counts) : Type 0 where
  pub entries : counts.entries ≡ length (durable_part items)
  pub rids : List Rid
  pub named : AreRepositories items rids
  pub repositories : counts.repositories ≡ length rids
  pub remotes : counts.remotes ≡ sum_by (remote_count items) rids
  pub objects : CountsObjects items counts.objects
  pub announcements : CountsHeard items counts.announcements

-- the text of the counts
pub record IsAuditReport (items : List Item) (text : List ℕ) : Type 0 where
  pub counts : Counts
  pub are : AreCounts items counts
  pub written : text ≡ audit_text counts

-- how many names have an object in one repository
pub record CountsOwn (items : List Item) (rid : Rid) (count : ℕ) : Type 0 where
  pub pairs : List (Rid × Oid)
  pub rising : IsStrictlySortedBy pair_cmp pairs
  pub exact : (of : Rid) (oid : Oid) → Contains pairs (of, oid) ↔ ((of ≡ rid) × IsSome ((replay rid items).objects oid))
  pub counted : count ≡ length pairs

-- the text of so many commits, of the objects of a repository, of the entries that the journal has, and of the
-- repository's head, if it has an identity
pub record IsGeneratedReport (keyring : Contents) (items : List Item) (rid : Rid) (commits : ℕ) (text : List ℕ) : Type 0 where
  pub counts : Generated
  pub made : counts.commits ≡ commits
  pub objects : CountsOwn items rid counts.objects
  pub entries : counts.entries ≡ length (durable_part items)
  pub head : Option Head
  pub found : IsHeadOf (replay rid items).objects keyring (replayed_state rid items) head
  pub written : text ≡ generated_text counts head
