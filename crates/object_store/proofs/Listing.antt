-- The names of the repositories that a store shows.
use Rattle.std.proofs.Common.{◌≡◌, ◌&&◌, Bool, true, false, not, eqb, List, [], ◌∷◌, length, Option, None, Some, refl, sym, ap, subst, ◌∙◌, arith}
use Rattle.std.specs.Prelude.{Contains, IfOk, IsTrue, IsSome, Result, Ok, Err, ◌↔◌}
use Rattle.std.specs.BTreeMap.{BTreeMap, get, keys}
use Rattle.std.specs.List.{filter}
use Rattle.std.specs.List.Sorted.{IsStrictlySortedBy}
use Rattle.std.specs.Option.{is_none}
use Rattle.std.proofs.lemmas.Bool.{eqb-true}
use Rattle.std.proofs.lemmas.List.Kept.{IsStrictlySortedBy-filter}
use Rattle.std.proofs.lemmas.Map.Views.{btree_map_contains_key_iff}
use Rattle.rad_base.specs.Order.{rid_cmp}
use Rattle.rad_base.specs.declared.names.Oid.{Oid}
use Rattle.rad_base.specs.declared.names.Rid.{Rid}
use Rattle.rad_base.specs.declared.memory.NoMemory.{NoMemory}
use Rattle.rad_base.proofs.Members.{filter_from, filter_has}
use Rattle.commit_graph.specs.Objects.{Object}
use Rattle.keyring.specs.Contents.{Contents}
use Rattle.repo_entries.specs.Items.{Item}
use Rattle.repo_slice.specs.Slices.{state_of}
use Rattle.repo_slice.specs.declared.slice.Slice.{Slice}
use Rattle.legal_history.specs.Histories.{Legal}
use Rattle.object_store.specs.Repositories.{StandsKnown}
use Rattle.object_store.specs.Shown.{AreRisingRids, IsBare, ShowsRepository, is_bare, is_shown}
use Rattle.object_store.specs.declared.repository.Repository.{Repository}
use Rattle.object_store.proofs.Keys.{rid_exact, rid_total}
use Rattle.object_store.proofs.Showing.{bare_hidden, full_shown, in_none, none_in, unknown_hidden}

-- names that are sorted rise
sorted_rise : (rids : List Rid) → IsStrictlySortedBy rid_cmp rids → AreRisingRids rids
unfolding IsStrictlySortedBy
sorted_rise [] s = tt
sorted_rise (x ∷ []) s = tt
sorted_rise (x ∷ y ∷ ys) s = (s.0.0, sorted_rise (y ∷ ys) s.1)

-- the test of a map's repositories
abbrev pub shown_in : BTreeMap Rid Repository → Rid → Bool
shown_in all rid = is_shown (get rid_cmp all rid)

pub shown_rise : (all : BTreeMap Rid Repository) (names shown : List Rid) → names ≡ keys all → IsStrictlySortedBy rid_cmp (keys all) → shown ≡ filter (shown_in all) names
    → AreRisingRids shown
shown_rise all names shown e sorted f =
    subst AreRisingRids (sym f)
    (sorted_rise (filter (shown_in all) names) (IsStrictlySortedBy-filter rid_cmp (shown_in all) names (subst (IsStrictlySortedBy rid_cmp) (sym e) sorted)))

-- what is shown is known
known : (o : Option Repository) → is_shown o ≡ true → IsSome o
known None e = cc e
known (Some r) e = refl

pub shown_are : (all : BTreeMap Rid Repository) (names shown : List Rid) → names ≡ keys all → shown ≡ filter (shown_in all) names
    → (rid : Rid) → Contains shown rid ↔ IsTrue (is_shown (get rid_cmp all rid))
shown_are all names shown e f rid = (
  λ c. (filter_from (shown_in all) names rid (subst (λ (l : List Rid). Contains l rid) f c)).1,
  λ is. subst (λ (l : List Rid). Contains l rid) (sym f) (filter_has (shown_in all) names rid
      (subst (λ (l : List Rid). Contains l rid) (sym e) ((btree_map_contains_key_iff rid_total rid_exact all rid).0 (known (get rid_cmp all rid) is))) is),
)

and-left : (a b : Bool) → (a && b) ≡ true → a ≡ true
and-left true b e = refl
and-left false b e = e

-- the two meanings of a bare slice are one
bare_by : (objects : List Object) (id : Option Oid) → (eqb (length objects) 0 && is_none id) ≡ true → (objects ≡ []) × (id ≡ None)
bare_by [] None e = (refl, refl)
bare_by [] (Some id) e = cc e
bare_by (object ∷ objects) id e =
    let none : length (object ∷ objects) ≡ 0 = eqb-true (length (object ∷ objects)) 0 (and-left (eqb (length (object ∷ objects)) 0) (is_none id) e) in
    absurd (omega (arith, none))

bare_from : (slice : Slice) → is_bare slice ≡ true → IsBare slice
bare_from slice e =
    let parts = bare_by slice.objects.objects (state_of slice).id e in
    (in_none slice.objects.objects (ap length parts.0), parts.1)

bare_test : (slice : Slice) → IsBare slice → is_bare slice ≡ true
bare_test slice bare =
    let none = none_in slice.objects.objects bare.0 in
    ap (λ (l : List Object). eqb (length l) 0 && is_none (state_of slice).id) none ∙ ap (λ (id : Option Oid). is_none id) bare.1

-- a repository is shown by its name where it is shown by what it has
pub shown_named : (o : Option Repository) (keyring : Contents) (rid : Rid) (items : List Item) → Legal keyring items → StandsKnown o rid items → IsTrue (is_shown o) ↔ ShowsRepository rid items
shown_named None keyring rid items legal h = (λ is. cc is, λ shown. absurd (unknown_hidden keyring None rid items legal refl h shown))
shown_named (Some r) keyring rid items legal h = (
  λ is. (full_shown (Some r) r rid items refl h (λ bare. let test = bare_test r.slice bare in cc)).0,
  λ shown. by_test (is_bare r.slice) refl shown,
)
  where
    by_test : (b : Bool) → is_bare r.slice ≡ b → ShowsRepository rid items → not b ≡ true
    by_test false e shown = refl
    by_test true e shown = absurd (bare_hidden keyring (Some r) r rid items legal refl h (bare_from r.slice e) shown)

-- so are all of them
pub all_shown : (all : BTreeMap Rid Repository) (keyring : Contents) (items : List Item) (rids : List Rid) → Legal keyring items
    → ((rid : Rid) → StandsKnown (get rid_cmp all rid) rid items) → ((rid : Rid) → Contains rids rid ↔ IsTrue (is_shown (get rid_cmp all rid)))
    → (rid : Rid) → Contains rids rid ↔ ShowsRepository rid items
all_shown all keyring items rids legal each names rid =
    let test = shown_named (get rid_cmp all rid) keyring rid items legal (each rid) in
    (λ c. test.0 ((names rid).0 c), λ shown. (names rid).1 (test.1 shown))

pub listed : (all : BTreeMap Rid Repository) (keyring : Contents) (items : List Item) (result : Result (List Rid) NoMemory) → Legal keyring items
    → ((rid : Rid) → StandsKnown (get rid_cmp all rid) rid items) → IfOk result (λ rids. (rid : Rid) → Contains rids rid ↔ IsTrue (is_shown (get rid_cmp all rid)))
    → IfOk result (λ rids. (rid : Rid) → Contains rids rid ↔ ShowsRepository rid items)
listed all keyring items (Ok rids) legal each names = all_shown all keyring items rids legal each names
listed all keyring items (Err why) legal each names = tt
