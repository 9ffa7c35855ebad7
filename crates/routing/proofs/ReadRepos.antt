-- The repositories of the members of `repos`.
use Rattle.std.proofs.Common.{◌≡◌, ◌≢◌, ℕ, Bool, true, false, List, [], ◌∷◌, ◌++◌, map, Some, None, refl, sym, ap, subst, ⊎_elim, ◌∙◌}
use Rattle.std.specs.Prelude.{Contains, String}
use Rattle.std.specs.BTreeMap.{BTreeMap, Updates, get, is_at}
use Rattle.std.specs.Cmp.Lexicographic.{slice_cmp}
use Rattle.std.specs.List.{AllByRecursion}
use Rattle.std.specs.List.Sorted.{IsStrictlySortedBy}
use Rattle.std.specs.Map.{keys_of}
use Rattle.std.specs.Ordering.{nat_cmp}
use Rattle.std.specs.String.{string_bytes}
use Rattle.std.specs.declared.alloc.Global.{Global}
use Rattle.std.specs.declared.cmp.Ordering.{Ordering}
use Rattle.std.specs.declared.cmp.Ordering.TheVariants.{Less}
use Rattle.std.proofs.lemmas.Bool.{false_from_ne_true}
use Rattle.std.proofs.lemmas.Cmp.{eq_by_cmp_equiv}
use Rattle.std.proofs.lemmas.List.{append-nil, append_assoc}
use Rattle.std.proofs.lemmas.List.Elements.{Contains-append_left, Contains-push, Contains-push_cases}
use Rattle.std.proofs.lemmas.Map.Keys.{IsDistinct-from_sorted}
use Rattle.std.proofs.lemmas.Map.Views.{Contains-from_lookup, lookup-from_Contains}
use Rattle.hex.specs.Hex.{encode_lower}
use Rattle.serde_json.specs.Data.{Data}
use Rattle.serde_json.specs.View.{members_view, view}
use Rattle.serde_json.specs.declared.value.Value.{Value}
use Rattle.rad_base.proofs.EachItem.{each_between}
use Rattle.rad_base.proofs.Members.{contains_cases, contains_head, contains_nothing, contains_tail}
use Rattle.rad_base.proofs.NameOrder.{not_below_itself}
use Rattle.rad_base.proofs.Options.{not_nothing, some_is}
use Rattle.rad_base.specs.Lists.{AllDiffer}
use Rattle.rad_base.specs.Order.{RisesBy, rid_cmp}
use Rattle.rad_base.specs.declared.names.Rid.{Rid}
use Rattle.routing.specs.RulesFiles.{AreRepos, IsOneOf, IsRepo, pairs}
use Rattle.routing.specs.declared.rule.Reach.{Reach}
use Rattle.routing.specs.declared.rule.Rule.{Rule}
use Rattle.routing.proofs.RidOrder.{one_rid, rid_total}

abbrev pub Entries : Type 0
Entries = List (String Global × Value)

abbrev pub Pair : Type 0
Pair = List ℕ × Data

abbrev pub pair_of : String Global × Value → Pair
pair_of e = (string_bytes e.0, view e.1)

-- the members of an object's value are the values of its entries
pub pairs_view : (es : Entries) → pairs (members_view es) ≡ map pair_of es
pairs_view [] = refl
pairs_view (e ∷ es) = ap (λ (ps : List Pair). pair_of e ∷ ps) (pairs_view es)

-- ------ names differ

abbrev string_cmp : String Global → String Global → Ordering
string_cmp a b = slice_cmp nat_cmp (string_bytes a) (string_bytes b)

-- no name stands twice
abbrev pub NamesDiffer : List Pair → Type 0
NamesDiffer ps = AllDiffer (map (λ p. p.0) ps)

differ_each : (name : String Global) (es : Entries) → AllByRecursion (λ k. string_cmp name k ≡ Less) (keys_of es)
    → AllByRecursion (λ other. string_bytes name ≢ other) (map (λ p. p.0) (map pair_of es))
differ_each name [] h = tt
differ_each name (e ∷ es) h = (
  (λ same. not_below_itself (string_bytes name) (subst (λ (bytes : List ℕ). slice_cmp nat_cmp (string_bytes name) bytes ≡ Less) (sym same) h.0)),
  differ_each name es h.1,
)

pub names_differ : (es : Entries) → IsStrictlySortedBy string_cmp (keys_of es) → NamesDiffer (map pair_of es)
unfolding IsStrictlySortedBy
names_differ [] h = tt
names_differ (e ∷ es) h = (differ_each e.0 es h.0, names_differ es h.1)

apart_from : (name : List ℕ) (ps : List Pair) (p : Pair) (qs : List Pair)
    → AllByRecursion (λ other. name ≢ other) (map (λ x. x.0) (ps ++ p ∷ qs)) → name ≢ p.0
apart_from name [] p qs h = h.0
apart_from name (x ∷ ps) p qs h = apart_from name ps p qs h.1

-- a member's name is that of none before it
pub name_differs : (ps : List Pair) (p : Pair) (qs : List Pair) (q : Pair) → NamesDiffer (ps ++ p ∷ qs) → Contains ps q → q.0 ≢ p.0
name_differs [] p qs q h there = absurd (contains_nothing q there)
name_differs (x ∷ ps) p qs q h there =
    ⊎_elim (λ a. subst (λ (y : Pair). y.0 ≢ p.0) a (apart_from x.0 ps p qs h.0)) (λ a. name_differs ps p qs q h.1 a) (contains_cases x ps q there)

-- ------ as they are read

-- the member is in the map
abbrev pub IsIn : Reach → BTreeMap Rid Rule → Pair → Type 0
IsIn file repos p = (repo : Rid × Rule) × IsRepo file p repo × (get rid_cmp repos repo.0 ≡ Some repo.1)

-- some first members are the repositories of the map
pub record AreRead (file : Reach) (all rest : List Pair) (repos : BTreeMap Rid Rule) : Type 0 where
  pub done : List Pair
  pub split : done ++ rest ≡ all
  pub each : (p : Pair) → Contains done p → IsIn file repos p
  pub only : (rid : Rid) (rule : Rule) → get rid_cmp repos rid ≡ Some rule → (p : Pair) × Contains done p × IsRepo file p (rid, rule)

pub read_none : (file : Reach) (all : List Pair) (repos : BTreeMap Rid Rule) → ((rid : Rid) → get rid_cmp repos rid ≡ None) → AreRead file all all repos
read_none file all repos none = record {
  done = [];
  split = refl;
  each = λ p there. absurd (contains_nothing p there);
  only = λ rid rule found. absurd (not_nothing found (none rid));
}

-- one member more
pub read_more : (file : Reach) (all : List Pair) (p : Pair) (rest : List Pair) (repo : Rid × Rule) (old new : BTreeMap Rid Rule)
    → NamesDiffer all → AreRead file all (p ∷ rest) old → IsRepo file p repo → Updates rid_cmp old new repo.0 (Some repo.1)
    → AreRead file all rest new
read_more file all p rest repo old new differ read is updates = record {
  done = read.done ++ p ∷ [];
  split = append_assoc read.done (p ∷ []) rest ∙ read.split;
  each = λ q there. ⊎_elim (λ a. stays q a (read.each q a))
      (λ a. subst (IsIn file new) a (repo, is, updates.1)) (Contains-push_cases read.done p q there);
  only = λ rid rule found. by_test rid rule found (is_at (rid_cmp repo.0) rid) refl;
}
  where
    stays : (q : Pair) → Contains read.done q → IsIn file old q → IsIn file new q
    stays q there was =
        let other : was.0.0 ≡ repo.0 → ⊥ = λ same.
        name_differs read.done p rest q (subst NamesDiffer (sym read.split) differ) there
        (was.1.name ∙ ap (λ (r : Rid). encode_lower r.0.0) same ∙ sym is.name) in
        (was.0, was.1, updates.2 was.0.0 (false_from_ne_true _ (λ h. other (sym (one_rid repo.0 was.0.0 h)))) ∙ was.2)

    by_test : (rid : Rid) (rule : Rule) → get rid_cmp new rid ≡ Some rule → (b : Bool) → is_at (rid_cmp repo.0) rid ≡ b
        → (q : Pair) × Contains (read.done ++ p ∷ []) q × IsRepo file q (rid, rule)
    by_test rid rule found true h =
        let one : repo.0 ≡ rid = one_rid repo.0 rid h in
        let same : repo.1 ≡ rule = some_is repo.1 rule (sym updates.1 ∙ ap (get rid_cmp new) one ∙ found) in
        (p, Contains-push read.done p, subst (λ (r : Rid × Rule). IsRepo file p r) (ap (λ (x : Rule). (repo.0, x)) same ∙ ap (λ (r : Rid). (r, rule)) one) is)
    by_test rid rule found false h =
        let was = read.only rid rule (sym (updates.2 rid h) ∙ found) in
        (was.0, Contains-append_left read.done (p ∷ []) was.0 was.1, was.2)

-- a member that is no repository
pub read_broken : (file : Reach) (all : List Pair) (p : Pair) (rest : List Pair) (old : BTreeMap Rid Rule) (repos : List (Rid × Rule))
    → AreRead file all (p ∷ rest) old → ((repo : Rid × Rule) → IsRepo file p repo → ⊥) → AreRepos file all repos → ⊥
read_broken file all p rest old repos read none are =
    let one = each_between (IsOneOf file repos) read.done p rest (subst (AllByRecursion (IsOneOf file repos)) (sym read.split) are.each) in
    none one.0 one.1

-- ------ all of them

each_of : (file : Reach) (repos : List (Rid × Rule)) (ps : List Pair) → ((p : Pair) → Contains ps p → IsOneOf file repos p)
    → AllByRecursion (IsOneOf file repos) ps
each_of file repos [] h = tt
each_of file repos (p ∷ ps) h = (h p (contains_head p ps), each_of file repos ps (λ q there. h q (contains_tail p ps q there)))

rises_from_sorted : (es : List (Rid × Rule)) → IsStrictlySortedBy rid_cmp (keys_of es) → RisesBy (λ repo. repo.0) rid_cmp es
unfolding IsStrictlySortedBy
rises_from_sorted [] h = tt
rises_from_sorted (x ∷ []) h = tt
rises_from_sorted (x ∷ y ∷ es) h = (h.0.0, rises_from_sorted (y ∷ es) h.1)

pub read_all : (file : Reach) (all : List Pair) (repos : BTreeMap Rid Rule) → AreRead file all [] repos
    → IsStrictlySortedBy rid_cmp (keys_of repos.entries) → AreRepos file all repos.entries
read_all file all repos read sorted =
    let whole : read.done ≡ all = sym (append-nil read.done) ∙ read.split in
    record {
      each = each_of file repos.entries all (λ p there.
          let is = read.each p (subst (λ (ps : List Pair). Contains ps p) (sym whole) there) in
          (is.0, is.1, Contains-from_lookup one_rid is.0.0 is.0.1 repos.entries is.2));
      only = λ repo there.
          let found = lookup-from_Contains (eq_by_cmp_equiv rid_total) repo.0 repo.1 repos.entries (IsDistinct-from_sorted rid_cmp (keys_of repos.entries) sorted) there in
          let member = read.only repo.0 repo.1 found in
          (member.0, subst (λ (ps : List Pair). Contains ps member.0) whole member.1, member.2);
      rising = rises_from_sorted repos.entries sorted;
    }
