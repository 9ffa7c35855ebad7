-- The order of pairs is total, and pairs that compare as equal are one.
use Rattle.std.proofs.Common.{◌≡◌, true, List, [], ◌∷◌, ◌++◌, Option, Some, None, refl, sym, ap, subst, ⊎_elim, ◌∙◌}
use Rattle.std.specs.Cmp.{IsTotalOrder}
use Rattle.std.specs.Cmp.Lexicographic.{options_total}
use Rattle.std.specs.Option.{option_cmp}
use Rattle.std.specs.declared.cmp.Ordering.TheVariants.{Less, Equal}
use Rattle.std.specs.Prelude.{Contains}
use Rattle.std.specs.BTreeMap.{is_at}
use Rattle.std.specs.List.{list_any}
use Rattle.std.specs.List.Sorted.{IsStrictlySortedBy}
use Rattle.std.proofs.lemmas.Cmp.{eq_by_cmp_equiv, on_total, then_total}
use Rattle.std.proofs.lemmas.List.Elements.{Contains-append_right}
use Rattle.std.proofs.lemmas.Map.Keys.{sorted_head, sorted_tail}
use Rattle.std.proofs.lemmas.Map.Views.{Contains-from_any, list_any-from_Contains}
use Rattle.std.proofs.lemmas.Map.Lookups.{CmpEqualImpliesEq}
use Rattle.rad_base.proofs.NameOrder.{both_equal, equal_from_is_eq, nid_exact, nid_total}
use Rattle.rad_base.proofs.Members.{contains_cases, contains_head, contains_nothing}
use Rattle.rad_base.specs.Order.{nid_cmp, rid_cmp}
use Rattle.rad_base.specs.declared.names.Nid.{Nid}
use Rattle.rad_base.specs.declared.names.Rid.{Rid}
use Rattle.routing.specs.RoutesOf.{pair_cmp}
use Rattle.routing.proofs.RidOrder.{rid_exact, rid_total}

-- a repository, with a node or with none
abbrev pub Pair : Type 0
Pair = Rid × Option Nid

-- a pair by its parts
pub one_pair : (pair : Pair) (rid : Rid) (o : Option Nid) → pair.0 ≡ rid → pair.1 ≡ o → pair ≡ (rid, o)
one_pair pair rid o e f = ap (λ (r : Rid). (r, pair.1)) e ∙ ap (λ (p : Option Nid). (rid, p)) f

-- the order of pairs is total
pub pair_total : IsTotalOrder pair_cmp
pair_total = then_total (on_total (λ (p : Pair). p.0) rid_total) (on_total (λ (p : Pair). p.1) (options_total nid_total))

one_option : (a b : Option Nid) → option_cmp nid_cmp a b ≡ Equal → a ≡ b
one_option None None e = refl
one_option None (Some b) e = cc e
one_option (Some a) None e = cc e
one_option (Some a) (Some b) e = ap (λ (n : Nid). Some n) (nid_exact a b e)

-- pairs that compare as equal are one
pub pair_exact : CmpEqualImpliesEq pair_cmp
pair_exact a b h =
    let both = both_equal (rid_cmp a.0 b.0) (option_cmp nid_cmp a.1 b.1) h in
    one_pair a b.0 b.1 (rid_exact a.0 b.0 both.0) (one_option a.1 b.1 both.1)

-- a pair that is found is the one that was looked for
pub one_pair_at : (a b : Pair) → is_at (pair_cmp a) b ≡ true → a ≡ b
one_pair_at a b h = pair_exact a b (equal_from_is_eq _ h)

-- a pair finds itself
pub pair_itself : (a b : Pair) → b ≡ a → is_at (pair_cmp a) b ≡ true
pair_itself a b e = subst (λ (p : Pair). is_at (pair_cmp a) p ≡ true) (sym e) ((eq_by_cmp_equiv pair_total).refl a)

-- a pair of a set is one of its keys
pub pair_from : (keys : List Pair) (pair : Pair) → list_any (is_at (pair_cmp pair)) keys ≡ true → Contains keys pair
pair_from keys pair h = Contains-from_any one_pair_at pair keys h

pub pair_as : (keys : List Pair) (pair : Pair) → Contains keys pair → list_any (is_at (pair_cmp pair)) keys ≡ true
pair_as keys pair h = list_any-from_Contains (eq_by_cmp_equiv pair_total) pair keys h

-- the first of rising keys is below each other
pub first_below : (pair : Pair) (keys : List Pair) → IsStrictlySortedBy pair_cmp (pair ∷ keys) → (other : Pair) → Contains keys other
    → pair_cmp pair other ≡ Less
first_below pair [] sorted other there = absurd (contains_nothing other there)
first_below pair (x ∷ keys) sorted other there =
    ⊎_elim (λ e. subst (λ (y : Pair). pair_cmp pair y ≡ Less) e (sorted_head pair_cmp pair (x ∷ keys) sorted).0)
    (λ h. pair_total.trans pair x other (sorted_head pair_cmp pair (x ∷ keys) sorted).0
    (first_below x keys (sorted_tail pair_cmp pair (x ∷ keys) sorted) other h))
    (contains_cases x keys other there)

-- each is above those before it
pub below_next : (keys : List Pair) (pair : Pair) (more : List Pair) → IsStrictlySortedBy pair_cmp (keys ++ pair ∷ more) → (other : Pair) → Contains keys other
    → pair_cmp other pair ≡ Less
below_next [] pair more sorted other there = absurd (contains_nothing other there)
below_next (x ∷ keys) pair more sorted other there =
    ⊎_elim (λ e. subst (λ (y : Pair). pair_cmp y pair ≡ Less) e
    (first_below x (keys ++ pair ∷ more) sorted pair (Contains-append_right keys (pair ∷ more) pair (contains_head pair more))))
    (λ h. below_next keys pair more (sorted_tail pair_cmp x (keys ++ pair ∷ more) sorted) other h)
    (contains_cases x keys other there)
