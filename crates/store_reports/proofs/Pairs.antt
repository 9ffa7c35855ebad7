-- The names of objects that puts bring, and those that have an object.
use Rattle.std.proofs.Common.{◌≡◌, ℕ, ◌+◌, ◌<◌, Bool, true, false, cond, if◌then◌else◌, List, [], ◌∷◌, ◌++◌, length, map, take, get_or, suc, Option, Some, None, refl, sym, ap, subst, ◌∙◌}
use Rattle.std.specs.Prelude.{◌||◌, ◌&&◌, ◌↔◌, Contains, IsSome, count_by, filter}
use Rattle.std.specs.BTreeMap.{is_at}
use Rattle.std.specs.BTreeSet.{BTreeSet, contains, IsOrdered}
use Rattle.std.specs.Cmp.{IsTotalOrder}
use Rattle.std.specs.List.{list_any}
use Rattle.std.specs.Option.{is_some, option_or}
use Rattle.std.specs.Ordering.{is_eq, ordering_then}
use Rattle.std.specs.declared.cmp.Ordering.{Ordering}
use Rattle.std.specs.declared.cmp.Ordering.TheVariants.{Less, Equal, Greater}
use Rattle.std.proofs.lemmas.Cmp.{eq_by_cmp_equiv, on_total, then_total}
use Rattle.std.proofs.lemmas.List.{map-append, take_more}
use Rattle.std.proofs.lemmas.List.Folds.{list_any-append}
use Rattle.std.proofs.lemmas.List.Kept.{IsStrictlySortedBy-filter}
use Rattle.std.proofs.lemmas.List.Sums.{length-filter}
use Rattle.std.proofs.lemmas.Map.Lookups.{CmpEqualImpliesEq}
use Rattle.std.proofs.lemmas.Map.Views.{btree_set_contains_iff}
use Rattle.rad_base.specs.Order.{oid_cmp, rid_cmp}
use Rattle.rad_base.specs.declared.names.Oid.{Oid}
use Rattle.rad_base.specs.declared.names.Rid.{Rid}
use Rattle.rad_base.proofs.NameOrder.{both_equal, oid_exact, oid_total}
use Rattle.rad_base.proofs.Members.{filter_from, filter_has}
use Rattle.git_object.specs.Names.{name}
use Rattle.commit_graph.specs.InMemory.{objects_in}
use Rattle.commit_graph.specs.Objects.{Object}
use Rattle.repo_entries.specs.Items.{Item, claim, entry_of, heard, install, missed, names_of, put, refused}
use Rattle.repo_entries.specs.declared.entry.Entry.{Entry}
use Rattle.legal_history.specs.Durable.{durable_part}
use Rattle.legal_history.specs.Replays.{Standing, after_install, after_item, after_items, after_put, is_same, nothing_stands, replay}
use Rattle.legal_history.proofs.GoodStandings.{same_is}
use Rattle.object_store.proofs.Keys.{is_itself, rid_exact}
use Rattle.store_reports.specs.Parts.{AddsKeys, HasPairs, all_pairs, is_durable, pairs_of, pairs_with}
use Rattle.store_reports.specs.Reports.{CountsObjects, CountsOwn, pair_cmp}

pub pair_total : IsTotalOrder pair_cmp
pair_total = then_total (on_total (λ (p : Rid × Oid). p.0.0) oid_total) (on_total (λ (p : Rid × Oid). p.1) oid_total)

pub pair_exact : CmpEqualImpliesEq pair_cmp
pair_exact a b h =
    let e = both_equal (rid_cmp a.0 b.0) (oid_cmp a.1 b.1) h in
    let r : a.0 ≡ b.0 = rid_exact a.0 b.0 e.0 in
    let o : a.1 ≡ b.1 = oid_exact a.1 b.1 e.1 in
    ap (λ (x : Rid). (x, a.1)) r ∙ ap (λ (x : Oid). (b.0, x)) o

-- both of two orders are equal
is_eq-then : (o p : Ordering) → is_eq (ordering_then o p) ≡ (is_eq o && is_eq p)
is_eq-then Less p = refl
is_eq-then Equal p = refl
is_eq-then Greater p = refl

and_no : (a : Bool) → false ≡ (a && false)
and_no true = refl
and_no false = refl

and_or : (a b c : Bool) → ((a && b) || (a && c)) ≡ (a && (b || c))
and_or true b c = refl
and_or false b c = refl

or_no : (a : Bool) → (a || false) ≡ a
or_no true = refl
or_no false = refl

or_or : (a b c : Bool) → ((a || b) || c) ≡ (a || (b || c))
or_or true b c = refl
or_or false b c = refl

-- a pair is among those of a repository
among_with : (rid of : Rid) (oid : Oid) (names : List Oid)
    → list_any (is_at (pair_cmp (rid, oid))) (pairs_with of names) ≡ (is_same rid of && list_any (is_at (oid_cmp oid)) names)
among_with rid of oid [] = and_no (is_same rid of)
among_with rid of oid (n ∷ names) =
    ap (λ (b : Bool). b || list_any (is_at (pair_cmp (rid, oid))) (pairs_with of names)) (is_eq-then (rid_cmp rid of) (oid_cmp oid n))
    ∙ ap (λ (b : Bool). (is_same rid of && is_eq (oid_cmp oid n)) || b) (among_with rid of oid names)
    ∙ and_or (is_same rid of) (is_eq (oid_cmp oid n)) (list_any (is_at (oid_cmp oid)) names)

some_cond : {X : Type 0} (b : Bool) (x : X) (o : Option X) → is_some (cond b (Some x) o) ≡ (b || is_some o)
some_cond true x o = refl
some_cond false x o = refl

some_or : {X : Type 0} (o p : Option X) → is_some (option_or o p) ≡ (is_some o || is_some p)
some_or (Some x) p = refl
some_or None p = refl

-- a name has an object among some
named_in : (batch : List Object) (oid : Oid) → is_some (objects_in batch oid) ≡ list_any (is_at (oid_cmp oid)) (names_of batch)
named_in [] oid = refl
named_in (object ∷ batch) oid =
    some_cond (is_at (oid_cmp oid) (name object.0 object.1)) object (objects_in batch oid)
    ∙ ap (λ (b : Bool). is_at (oid_cmp oid) (name object.0 object.1) || b) (named_in batch oid)

-- a name has an object once an entry stands
abbrev HasOne : Rid → Oid → Standing → List (Rid × Oid) → Standing → Type 0
HasOne rid oid old pairs new = is_some (new.objects oid) ≡ (is_some (old.objects oid) || list_any (is_at (pair_cmp (rid, oid))) pairs)

same_one : (rid : Rid) (oid : Oid) (s : Standing) → HasOne rid oid s [] s
same_one rid oid s = sym (or_no (is_some (s.objects oid)))

item_has : (rid : Rid) (oid : Oid) (s : Standing) (item : Item) → HasOne rid oid s (pairs_of (entry_of item)) (after_item rid s item)
item_has rid oid s (claim of caller) = same_one rid oid s
item_has rid oid s (put of batch caller) = by_test (is_same rid of) refl
  where
    there : (b : Bool) → is_some ((if b then after_put batch s else s).objects oid) ≡ (is_some (s.objects oid) || (b && list_any (is_at (oid_cmp oid)) (names_of batch)))
    there true = some_or (s.objects oid) (objects_in batch oid) ∙ ap (λ (x : Bool). is_some (s.objects oid) || x) (named_in batch oid)
    there false = sym (or_no (is_some (s.objects oid)))

    by_test : (b : Bool) → is_same rid of ≡ b → HasOne rid oid s (pairs_with of (names_of batch)) (if is_same rid of then after_put batch s else s)
    by_test b e = there (is_same rid of) ∙ ap (λ (x : Bool). is_some (s.objects oid) || x) (sym (among_with rid of oid (names_of batch)))
item_has rid oid s (install of id remotes caller) = by_test (is_same rid of)
  where
    by_test : (b : Bool) → HasOne rid oid s [] (if b then after_install id remotes s else s)
    by_test true = same_one rid oid s
    by_test false = same_one rid oid s
item_has rid oid s (heard message caller) = same_one rid oid s
item_has rid oid s (missed of left caller) = same_one rid oid s
item_has rid oid s (refused of why caller) = same_one rid oid s

items_have : (rid : Rid) (oid : Oid) (s : Standing) (items : List Item) → HasOne rid oid s (all_pairs (map entry_of items)) (after_items rid s items)
items_have rid oid s [] = same_one rid oid s
items_have rid oid s (item ∷ items) =
    let test = is_at (pair_cmp (rid, oid)) in
    let own = pairs_of (entry_of item) in
    let more = all_pairs (map entry_of items) in
    items_have rid oid (after_item rid s item) items
    ∙ ap (λ (b : Bool). b || list_any test more) (item_has rid oid s item)
    ∙ or_or (is_some (s.objects oid)) (list_any test own) (list_any test more)
    ∙ ap (λ (b : Bool). is_some (s.objects oid) || b) (sym (list_any-append test own more))

-- a name has an object exactly where a put of the repository names it
pub put_exactly : (rid : Rid) (oid : Oid) (items : List Item)
    → is_some ((replay rid items).objects oid) ≡ list_any (is_at (pair_cmp (rid, oid))) (all_pairs (map entry_of items))
put_exactly rid oid items = items_have rid oid nothing_stands items

-- a set has one key more
pub keys_push : {K : Type 0} (cmp : K → K → Ordering) → IsTotalOrder cmp → (keys : List K) (x : K) (old mid new : BTreeSet K)
    → ((q : K) → contains cmp new q ≡ cond (is_at (cmp x) q) true (contains cmp mid q))
    → AddsKeys cmp keys old mid → AddsKeys cmp (keys ++ x ∷ []) old new
keys_push cmp o keys x old mid new u h q =
    u q ∙ ap (λ (b : Bool). cond b true (contains cmp mid q)) ((eq_by_cmp_equiv o).symm x q)
    ∙ ap (λ (b : Bool). cond (is_at (cmp q) x) true b) (h q)
    ∙ turned (is_at (cmp q) x) (contains cmp old q) (list_any (is_at (cmp q)) keys)
    ∙ ap (λ (b : Bool). contains cmp old q || b) (sym (list_any-append (is_at (cmp q)) keys (x ∷ [])))
  where
    turned : (a b c : Bool) → cond a true (b || c) ≡ (b || (c || (a || false)))
    turned true true c = refl
    turned true false true = refl
    turned true false false = refl
    turned false true c = refl
    turned false false true = refl
    turned false false false = refl

-- a turn of the loop over names
pub names_turn : (rid : Rid) (names : List Oid) (i : ℕ) (d : Oid) (old mid new : BTreeSet (Rid × Oid)) → i < length names
    → ((q : Rid × Oid) → contains pair_cmp new q ≡ cond (is_at (pair_cmp (rid, get_or names i d)) q) true (contains pair_cmp mid q))
    → AddsKeys pair_cmp (pairs_with rid (take i names)) old mid → AddsKeys pair_cmp (pairs_with rid (take (i + 1) names)) old new
names_turn rid names i d old mid new l u h =
    subst (λ (xs : List Oid). AddsKeys pair_cmp (pairs_with rid xs) old new) (sym (take_more names i d l))
    (subst (λ (xs : List (Rid × Oid)). AddsKeys pair_cmp xs old new) (sym (map-append (λ (n : Oid). (rid, n)) (take i names) (get_or names i d ∷ [])))
    (keys_push pair_cmp pair_total (pairs_with rid (take i names)) (rid, get_or names i d) old mid new u h))

-- such a set has the names that have an object
keys_exact : (entries : List Entry) (items : List Item) (set : BTreeSet (Rid × Oid)) → entries ≡ map entry_of items → HasPairs entries set → (rid : Rid) (oid : Oid)
    → Contains set.keys (rid, oid) ↔ IsSome ((replay rid items).objects oid)
keys_exact entries items set e has rid oid =
    let found : contains pair_cmp set (rid, oid) ≡ is_some ((replay rid items).objects oid) =
    has (rid, oid) ∙ ap (λ (xs : List Entry). list_any (is_at (pair_cmp (rid, oid))) (all_pairs xs)) e ∙ sym (put_exactly rid oid items) in
    let iff = btree_set_contains_iff pair_total pair_exact set (rid, oid) in
    (λ h. sym found ∙ iff.1 h, λ h. iff.0 (found ∙ h))

-- they are counted
pub counts_from : (entries : List Entry) (items : List Item) (set : BTreeSet (Rid × Oid)) → entries ≡ map entry_of items → HasPairs entries set → IsOrdered pair_cmp set
    → CountsObjects items (length set.keys)
counts_from entries items set e has ordered = record {
  pairs = set.keys;
  rising = ordered;
  exact = keys_exact entries items set e has;
  counted = refl;
}

-- those of one repository are counted
pub counts_own : (entries : List Entry) (items : List Item) (rid : Rid) (set : BTreeSet (Rid × Oid)) (count : ℕ) → entries ≡ map entry_of items → HasPairs entries set → IsOrdered pair_cmp set
    → count ≡ count_by (λ p. is_same p.0 rid) set.keys → CountsOwn items rid count
counts_own entries items rid set count e has ordered counted =
    let test : Rid × Oid → Bool = λ p. is_same p.0 rid in
    let all = keys_exact entries items set e has in
    record {
      pairs = filter test set.keys;
      rising = IsStrictlySortedBy-filter pair_cmp test set.keys ordered;
      exact = λ of oid. (
        λ h. let f = filter_from test set.keys (of, oid) h in
            let own : of ≡ rid = same_is of rid f.1 in
            (own, subst (λ (r : Rid). IsSome ((replay r items).objects oid)) own ((all of oid).0 f.0)),
        λ h. filter_has test set.keys (of, oid) ((all of oid).1 (subst (λ (r : Rid). IsSome ((replay r items).objects oid)) (sym h.0) h.1))
            (subst (λ (r : Rid). is_same of r ≡ true) h.0 (is_itself of)),
      );
      counted = counted ∙ sym (length-filter test set.keys);
    }

durable_kept : (items : List Item) → length (filter is_durable (map entry_of items)) ≡ length (durable_part items)
durable_kept [] = refl
durable_kept (claim rid caller ∷ items) = durable_kept items
durable_kept (put rid batch caller ∷ items) = ap suc (durable_kept items)
durable_kept (install rid id remotes caller ∷ items) = ap suc (durable_kept items)
durable_kept (heard message caller ∷ items) = ap suc (durable_kept items)
durable_kept (missed of left caller ∷ items) = durable_kept items
durable_kept (refused rid why caller ∷ items) = durable_kept items

-- the entries that a journal has are those of the durable part
pub kept_are_durable : (items : List Item) → count_by is_durable (map entry_of items) ≡ length (durable_part items)
kept_are_durable items = sym (length-filter is_durable (map entry_of items)) ∙ durable_kept items
