-- What each step of a report adds.
use Rattle.std.specs.Prelude.{◌≡◌, ◌||◌, ℕ, Bool, true, false, List, [], ◌++◌, map}
use Rattle.std.specs.BTreeMap.{is_at}
use Rattle.std.specs.BTreeSet.{BTreeSet, contains}
use Rattle.std.specs.List.{AllZip, flat_map, list_any}
use Rattle.std.specs.declared.cmp.Ordering.{Ordering}
use Rattle.rad_base.specs.declared.names.Nid.{Nid}
use Rattle.rad_base.specs.declared.names.Oid.{Oid}
use Rattle.rad_base.specs.declared.names.Rid.{Rid}
use Rattle.commit_graph.specs.Objects.{ObjectMap}
use Rattle.canonical_head.specs.declared.answer.Head.{Head}
use Rattle.keyring.specs.Contents.{Contents}
use Rattle.repo_entries.specs.Items.{Item}
use Rattle.repo_entries.specs.declared.entry.Entry.{Entry}
use Rattle.repo_entries.specs.declared.entry.Entry.TheVariants as entries
use Rattle.repo_slice.specs.declared.state.State.{State}
use Rattle.report_texts.specs.Stored.{head_of_line, repository_lines, repository_text, shown_line, shown_lines}
use Rattle.report_texts.specs.declared.shown.ShownRemote.{ShownRemote}
use Rattle.store_reports.specs.Reports.{IsHeadLine, IsShown, IsShownRemote, pair_cmp, with_identity}

-- a line, or some lines, of something that is so of this
pub record AddsOne {A B : Type 0} (R : A → B → Type 0) (write : B → List ℕ) (item : A) (old new : List ℕ) : Type 0 where
  pub one : B
  pub is : R item one
  pub written : new ≡ old ++ write one

-- the same of each of some, in order
pub record AddsEach {A B : Type 0} (R : A → B → Type 0) (write : B → List ℕ) (items : List A) (old new : List ℕ) : Type 0 where
  pub some : List B
  pub each : AllZip R items some
  pub written : new ≡ old ++ flat_map write some

-- the line of a remote
abbrev pub AddsRemote : ObjectMap → Nid × Oid → List ℕ → List ℕ → Type 0
AddsRemote objects remote old new = AddsOne (IsShownRemote objects) shown_line remote old new

-- the lines of some remotes
abbrev pub AddsRemotes : ObjectMap → List (Nid × Oid) → List ℕ → List ℕ → Type 0
AddsRemotes objects remotes old new = AddsEach (IsShownRemote objects) shown_line remotes old new

-- the lines of a repository that stands so
pub record AddsSlice (objects : ObjectMap) (state : State) (old new : List ℕ) : Type 0 where
  pub shown : List ShownRemote
  pub each : AllZip (IsShownRemote objects) state.remotes shown
  pub written : new ≡ old ++ (repository_lines state.rid state.id ++ shown_lines shown)

-- the lines of a repository
abbrev pub AddsRepository : List Item → Rid → List ℕ → List ℕ → Type 0
AddsRepository items rid old new = AddsOne (IsShown items) repository_text rid old new

-- the lines of some repositories
abbrev pub AddsAll : List Item → List Rid → List ℕ → List ℕ → Type 0
AddsAll items rids old new = AddsEach (IsShown items) repository_text rids old new

-- the line of a repository and its head
abbrev pub line_text : Rid × Head → List ℕ
line_text line = head_of_line line.0 line.1

-- the heads of those of some repositories that have an identity
abbrev pub AddsHeads : Contents → List Item → List Rid → List ℕ → List ℕ → Type 0
AddsHeads keyring items rids old new =
    AddsEach (IsHeadLine keyring items) line_text (with_identity items rids) old new

-- a journal has the entry
abbrev pub is_durable : Entry → Bool
is_durable (entries.Put rid names caller) = true
is_durable (entries.Install rid id remotes caller) = true
is_durable (entries.Heard message caller) = true
is_durable other = false

-- a repository with each of some names
abbrev pub pairs_with : Rid → List Oid → List (Rid × Oid)
pairs_with rid names = map (λ name. (rid, name)) names

-- the repository of a put, with the name of each of its objects
abbrev pub pairs_of : Entry → List (Rid × Oid)
pairs_of (entries.Put rid names caller) = pairs_with rid names
pairs_of other = []

-- those of some entries
abbrev pub all_pairs : List Entry → List (Rid × Oid)
all_pairs entries = flat_map pairs_of entries

-- the set has these keys beside those from before
abbrev pub AddsKeys : {K : Type 0} → (K → K → Ordering) → List K → BTreeSet K → BTreeSet K → Type 0
AddsKeys {K} cmp keys old new = (q : K) → contains cmp new q ≡ (contains cmp old q || list_any (is_at (cmp q)) keys)

-- the set has the pairs of these entries
abbrev pub HasPairs : List Entry → BTreeSet (Rid × Oid) → Type 0
HasPairs entries set = (q : Rid × Oid) → contains pair_cmp set q ≡ list_any (is_at (pair_cmp q)) (all_pairs entries)
