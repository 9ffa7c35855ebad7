-- What is shown of a repository is read off its slice.
use Rattle.std.proofs.Common.{◌≡◌, ℕ, ◌<◌, List, ◌++◌, length, get_or, append_assoc, Option, None, Some, refl, sym, ap, subst, ◌∙◌}
use Rattle.std.specs.Prelude.{Contains}
use Rattle.std.specs.List.{flat_map}
use Rattle.std.proofs.lemmas.List.Elements.{Contains-get_or}
use Rattle.rad_base.specs.Order.{IsRising, commit_of}
use Rattle.rad_base.specs.declared.names.Nid.{Nid}
use Rattle.rad_base.specs.declared.names.Oid.{Oid}
use Rattle.rad_base.specs.declared.names.Rid.{Rid}
use Rattle.rad_base.proofs.Lookups.{among_found}
use Rattle.commit_graph.specs.Objects.{ObjectMap}
use Rattle.keyring.specs.Contents.{Contents}
use Rattle.signed_refs.specs.Lines.{Line}
use Rattle.signed_refs.specs.Said.{Says}
use Rattle.repo_entries.specs.Items.{Item}
use Rattle.repo_slice.specs.Good.{IsGood}
use Rattle.repo_slice.specs.Slices.{AreRefsOf, objects_of, state_of}
use Rattle.repo_slice.specs.declared.slice.Slice.{Slice}
use Rattle.repo_slice.specs.declared.state.State.{State}
use Rattle.legal_history.specs.Histories.{Legal}
use Rattle.legal_history.specs.Replays.{replay, replayed_state}
use Rattle.legal_history.proofs.GoodStandings.{legal_is_good}
use Rattle.object_store.specs.Shown.{ShowsRepository}
use Rattle.report_texts.specs.Stored.{repository_lines, shown_line}
use Rattle.report_texts.specs.declared.shown.ShownRemote.{ShownRemote}
use Rattle.store_reports.specs.Parts.{AddsRemotes, AddsRepository, AddsSlice}
use Rattle.store_reports.specs.Reports.{AreRepositories, IsShownRemote}

-- a commit that was found twice is one
found_once : (o : Option Oid) (a b : Oid) → o ≡ Some a → o ≡ Some b → a ≡ b
found_once o a b e f = cc (e, f)

-- the refs of a remote
pub remote_shown : (objects : ObjectMap) (state : State) (node : Nid) (commit : Oid) (refs : List Line) (shown : ShownRemote)
    → AreRefsOf objects state node (Some refs) → commit_of state.remotes node ≡ Some commit
    → shown.node ≡ node → shown.commit ≡ commit → shown.lines ≡ length refs → IsShownRemote objects (node, commit) shown
remote_shown objects state node commit refs shown are there n c l = record {
  node = n;
  commit = c;
  refs = refs;
  said = subst (λ (x : Oid). Says objects x refs) (found_once (commit_of state.remotes node) are.0 commit are.1 there) are.2;
  lines = l;
}

-- each remote has refs
pub none_missing : (objects : ObjectMap) (state : State) (node : Nid) (commit : Oid) → AreRefsOf objects state node None → commit_of state.remotes node ≡ Some commit → ⊥
none_missing objects state node commit none there = cc (none, there)

-- the lines of a repository are those of its name and identity, and of its remotes
pub slice_adds : (objects : ObjectMap) (state : State) (rid : Rid) (id : Option Oid) (old mid new : List ℕ) → rid ≡ state.rid → id ≡ state.id → mid ≡ old ++ repository_lines rid id
    → AddsRemotes objects state.remotes mid new → AddsSlice objects state old new
slice_adds objects state rid id old mid new e f first h =
    let own : repository_lines rid id ≡ repository_lines state.rid state.id =
    ap (λ (r : Rid). repository_lines r id) e ∙ ap (λ (o : Option Oid). repository_lines state.rid o) f in
    record {
      shown = h.some;
      each = h.each;
      written = h.written ∙ ap (λ (t : List ℕ). t ++ flat_map shown_line h.some) (first ∙ ap (λ (t : List ℕ). old ++ t) own)
          ∙ append_assoc old (repository_lines state.rid state.id) (flat_map shown_line h.some);
    }

-- what stands of a repository is what the entries make of it
pub repository_adds : (slice : Slice) (rid : Rid) (items : List Item) (old new : List ℕ)
    → objects_of slice ≡ (replay rid items).objects → state_of slice ≡ replayed_state rid items
    → AddsSlice (objects_of slice) (state_of slice) old new → AddsRepository items rid old new
repository_adds slice rid items old new objects state h =
    let at : AddsSlice (replay rid items).objects (replayed_state rid items) old new =
    subst (λ (m : ObjectMap). AddsSlice m (replayed_state rid items) old new) objects (subst (λ (s : State). AddsSlice (objects_of slice) s old new) state h) in
    record {
      one = record { rid = rid; id = (replay rid items).id; remotes = at.shown };
      is = record { own = refl; id = refl; remotes = at.each };
      written = at.written;
    }

-- and it is good
pub slice_good : (slice : Slice) (rid : Rid) (keyring : Contents) (items : List Item) → Legal keyring items
    → objects_of slice ≡ (replay rid items).objects → state_of slice ≡ replayed_state rid items
    → IsGood (objects_of slice) keyring (state_of slice)
slice_good slice rid keyring items legal objects state =
    subst (λ (m : ObjectMap). IsGood m keyring (state_of slice)) (sym objects)
    (subst (λ (s : State). IsGood (replay rid items).objects keyring s) (sym state) (legal_is_good keyring rid items legal).good)

-- each of the remotes, whose keys rise, is found
pub item_found : (xs ys remotes : List (Nid × Oid)) (i : ℕ) (d : Nid × Oid) → xs ≡ ys → ys ≡ remotes → IsRising ys → i < length xs
    → commit_of remotes (get_or xs i d).0 ≡ Some (get_or xs i d).1
item_found xs ys remotes i d e f rising l =
    let up : IsRising remotes = subst IsRising f rising in
    let here : Contains remotes (get_or xs i d) = subst (λ (zs : List (Nid × Oid)). Contains zs (get_or xs i d)) (e ∙ f) (Contains-get_or xs i d l) in
    among_found remotes (get_or xs i d).0 (get_or xs i d).1 up here

-- each of the repositories is named by an entry
pub named_all : (items : List Item) (rids xs : List Rid) → xs ≡ rids → AreRepositories items rids → (rid : Rid) → Contains xs rid → ShowsRepository rid items
named_all items rids xs e named rid h = (named.exact rid).0 (subst (λ (ys : List Rid). Contains ys rid) e h)
