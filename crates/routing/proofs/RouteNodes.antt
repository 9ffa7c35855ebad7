-- The nodes that routes have for a repository, as a list.
use Rattle.std.proofs.Common.{◌≡◌, ◌&&◌, Bool, true, false, cond, Option, Some, None, List, [], ◌∷◌, ◌++◌, refl, sym, subst, ⊎_elim, ◌∙◌}
use Rattle.std.specs.Prelude.{Contains, filter}
use Rattle.std.specs.BTreeMap.{is_at}
use Rattle.std.specs.BTreeMap.Range.{range_contains}
use Rattle.std.specs.BTreeSet.{keys_between}
use Rattle.std.specs.Cmp.{tied_itself}
use Rattle.std.specs.List.Sorted.{IsStrictlySortedBy}
use Rattle.std.specs.Option.{option_cmp}
use Rattle.std.specs.Ordering.{is_eq, is_le, ordering_reverse, ordering_then}
use Rattle.std.specs.declared.cmp.Ordering.{Ordering}
use Rattle.std.specs.declared.cmp.Ordering.TheVariants.{Less, Equal, Greater}
use Rattle.std.specs.declared.ops.Bound.TheVariants.{Included, Unbounded}
use Rattle.std.proofs.lemmas.Bool.{false_from_ne_true, false≢true}
use Rattle.std.proofs.lemmas.List.{append-nil, append_assoc}
use Rattle.std.proofs.lemmas.List.Kept.{IsStrictlySortedBy-filter}
use Rattle.std.proofs.lemmas.Map.Keys.{sorted_tail}
use Rattle.rad_base.proofs.Members.{contains_cases, contains_head, contains_nothing, contains_tail, filter_from, filter_has}
use Rattle.rad_base.proofs.NameOrder.{equal_from_is_eq}
use Rattle.rad_base.specs.Order.{RisesBy, nid_cmp, rid_cmp}
use Rattle.rad_base.specs.declared.names.Nid.{Nid}
use Rattle.rad_base.specs.declared.names.Rid.{Rid}
use Rattle.routing.specs.RoutesOf.{AreNodes, pair_cmp}
use Rattle.routing.specs.declared.routes.Routes.{Routes}
use Rattle.routing.proofs.PairOrder.{Pair, first_below, pair_as, pair_from}
use Rattle.routing.proofs.RidOrder.{one_rid, rid_itself, rid_total}

-- the nodes behind one, if there is one
abbrev pub with_node : Option Nid → List Nid → List Nid
with_node None nodes = nodes
with_node (Some node) nodes = node ∷ nodes

-- the nodes of the repository, up to the first pair of another
abbrev pub nodes_ahead : Rid → List Pair → List Nid
nodes_ahead rid [] = []
nodes_ahead rid (pair ∷ pairs) = cond (is_at (rid_cmp pair.0) rid) (with_node pair.1 (nodes_ahead rid pairs)) []

-- ------ which they are

from_with : (rid : Rid) (o : Option Nid) (nodes : List Nid) (pairs : List Pair) (node : Nid) → (Contains nodes node → Contains pairs (rid, Some node))
    → Contains (with_node o nodes) node → Contains ((rid, o) ∷ pairs) (rid, Some node)
from_with rid None nodes pairs node later h = contains_tail (rid, None) pairs (rid, Some node) (later h)
from_with rid (Some n) nodes pairs node later h =
    ⊎_elim (λ e. subst (λ (x : Nid). Contains ((rid, Some n) ∷ pairs) (rid, Some x)) e (contains_head (rid, Some n) pairs))
    (λ t. contains_tail (rid, Some n) pairs (rid, Some node) (later t)) (contains_cases n nodes node h)

ahead_from : (rid : Rid) (pairs : List Pair) (node : Nid) → Contains (nodes_ahead rid pairs) node → Contains pairs (rid, Some node)
ahead_from rid [] node h = absurd (contains_nothing node h)
ahead_from rid (pair ∷ pairs) node h = by_test (ahead_from rid pairs node) (is_at (rid_cmp pair.0) rid) refl h
  where
    by_test : (Contains (nodes_ahead rid pairs) node → Contains pairs (rid, Some node)) → (b : Bool) → is_at (rid_cmp pair.0) rid ≡ b
        → Contains (cond b (with_node pair.1 (nodes_ahead rid pairs)) []) node → Contains (pair ∷ pairs) (rid, Some node)
    by_test later true e h =
        subst (λ (r : Rid). Contains ((r, pair.1) ∷ pairs) (rid, Some node)) (sym (one_rid pair.0 rid e))
        (from_with rid pair.1 (nodes_ahead rid pairs) pairs node later h)
    by_test later false e h = absurd (contains_nothing node h)

as_with : (o : Option Nid) (nodes : List Nid) (node : Nid) → Contains nodes node → Contains (with_node o nodes) node
as_with None nodes node h = h
as_with (Some n) nodes node h = contains_tail n nodes node h

-- no pair is below the repository
abbrev IsFrom : Rid → List Pair → Type 0
IsFrom rid pairs = (pair : Pair) → Contains pairs pair → rid_cmp rid pair.0 ≡ Greater → ⊥

turned : (o p q : Ordering) → q ≡ ordering_reverse o → (q ≡ Greater → ⊥) → ordering_then o p ≡ Less → is_eq o ≡ true
turned Less p q e from h = absurd (from e)
turned Equal p q e from h = refl
turned Greater p q e from h = cc h

-- so what is below one of its pairs has it
same_from : (rid r : Rid) (node : Nid) (o : Option Nid) → (rid_cmp rid r ≡ Greater → ⊥) → pair_cmp (r, o) (rid, Some node) ≡ Less → is_at (rid_cmp r) rid ≡ true
same_from rid r node o from below = turned (rid_cmp r rid) (option_cmp nid_cmp o (Some node)) (rid_cmp rid r) (rid_total.antisymm rid r) from below

ahead_as : (rid : Rid) (pairs : List Pair) (node : Nid) → IsStrictlySortedBy pair_cmp pairs → IsFrom rid pairs → Contains pairs (rid, Some node)
    → Contains (nodes_ahead rid pairs) node
ahead_as rid [] node sorted from h = absurd (contains_nothing (rid, Some node) h)
ahead_as rid (pair ∷ pairs) node sorted from h =
    ⊎_elim
    (λ e. subst (λ (p : Pair). Contains (cond (is_at (rid_cmp p.0) rid) (with_node p.1 (nodes_ahead rid pairs)) []) node) (sym e)
    (rw (rid_itself rid rid refl) (contains_head node (nodes_ahead rid pairs))))
    (λ t.
    let here : is_at (rid_cmp pair.0) rid ≡ true =
    same_from rid pair.0 node pair.1 (from pair (contains_head pair pairs)) (first_below pair pairs sorted (rid, Some node) t) in
    rw here (as_with pair.1 (nodes_ahead rid pairs) node
    (ahead_as rid pairs node (sorted_tail pair_cmp pair pairs sorted) (λ p c. from p (contains_tail pair pairs p c)) t)))
    (contains_cases pair pairs (rid, Some node) h)

-- ------ as they are looked at

-- a pair with a node
pub ahead_more : (rid : Rid) (node : Nid) (nodes all : List Nid) (pairs : List Pair) → nodes ++ nodes_ahead rid ((rid, Some node) ∷ pairs) ≡ all
    → (nodes ++ node ∷ []) ++ nodes_ahead rid pairs ≡ all
ahead_more rid node nodes all pairs h = append_assoc nodes (node ∷ []) (nodes_ahead rid pairs) ∙ (rw (rid_itself rid rid refl) at h)

-- a pair with none
pub ahead_none : (rid : Rid) (nodes all : List Nid) (pairs : List Pair) → nodes ++ nodes_ahead rid ((rid, None) ∷ pairs) ≡ all
    → nodes ++ nodes_ahead rid pairs ≡ all
ahead_none rid nodes all pairs h = rw (rid_itself rid rid refl) at h

-- a pair of another repository
pub ahead_other : (rid r : Rid) (o : Option Nid) (nodes all : List Nid) (pairs : List Pair) → (r ≡ rid → ⊥) → nodes ++ nodes_ahead rid ((r, o) ∷ pairs) ≡ all
    → nodes ≡ all
ahead_other rid r o nodes all pairs other h =
    let off : is_at (rid_cmp r) rid ≡ false = false_from_ne_true _ (λ e. other (one_rid r rid e)) in
    sym (append-nil nodes) ∙ (rw off at h)

-- ------ in order

rises_on : (node : Nid) (nodes : List Nid) → ((other : Nid) → Contains nodes other → nid_cmp node other ≡ Less) → RisesBy (λ x. x) nid_cmp nodes
    → RisesBy (λ x. x) nid_cmp (node ∷ nodes)
rises_on node [] below rising = tt
rises_on node (x ∷ nodes) below rising = (below x (contains_head x nodes), rising)

with_rises : (o : Option Nid) (nodes : List Nid) → ((node other : Nid) → o ≡ Some node → Contains nodes other → nid_cmp node other ≡ Less)
    → RisesBy (λ x. x) nid_cmp nodes → RisesBy (λ x. x) nid_cmp (with_node o nodes)
with_rises None nodes below rising = rising
with_rises (Some node) nodes below rising = rises_on node nodes (λ other c. below node other refl c) rising

ahead_rises : (rid : Rid) (pairs : List Pair) → IsStrictlySortedBy pair_cmp pairs → RisesBy (λ x. x) nid_cmp (nodes_ahead rid pairs)
ahead_rises rid [] sorted = tt
ahead_rises rid (pair ∷ pairs) sorted = by_test (ahead_rises rid pairs (sorted_tail pair_cmp pair pairs sorted)) (is_at (rid_cmp pair.0) rid) refl
  where
    by_test : RisesBy (λ x. x) nid_cmp (nodes_ahead rid pairs) → (b : Bool) → is_at (rid_cmp pair.0) rid ≡ b
        → RisesBy (λ x. x) nid_cmp (cond b (with_node pair.1 (nodes_ahead rid pairs)) [])
    by_test later true e =
        with_rises pair.1 (nodes_ahead rid pairs)
        (λ node other is c.
        let below : pair_cmp pair (rid, Some other) ≡ Less = first_below pair pairs sorted (rid, Some other) (ahead_from rid pairs other c) in
        let same : rid_cmp pair.0 rid ≡ Equal = equal_from_is_eq (rid_cmp pair.0 rid) e in
        rw (same, is) at below)
        later
    by_test later false e = tt

-- the pairs from that of the repository with no node
abbrev pub pairs_from : Routes → Rid → List Pair
pairs_from routes rid = keys_between pair_cmp (Included (rid, None)) Unbounded routes.pairs

passed : (o p : Ordering) → (is_le (ordering_then o p) && true) ≡ true → o ≡ Greater → ⊥
passed Less p h e = cc e
passed Equal p h e = cc e
passed Greater p h e = false≢true h

-- these are the nodes of a repository
pub are_nodes : (routes : Routes) (rid : Rid) → IsStrictlySortedBy pair_cmp routes.pairs.keys → AreNodes routes rid (nodes_ahead rid (pairs_from routes rid))
are_nodes routes rid sorted =
    let keys = routes.pairs.keys in
    let test = range_contains pair_cmp (Included (rid, None)) Unbounded in
    let ordered = IsStrictlySortedBy-filter pair_cmp test keys sorted in
    let itself : rid_cmp rid rid ≡ Equal = tied_itself rid_total rid in
    record {
      each = λ node. (
        λ h. pair_as keys (rid, Some node) (filter_from test keys (rid, Some node) (ahead_from rid (filter test keys) node h)).0,
        λ h. ahead_as rid (filter test keys) node ordered
            (λ pair c. passed (rid_cmp rid pair.0) (option_cmp nid_cmp None pair.1) (filter_from test keys pair c).1)
            (filter_has test keys (rid, Some node) (pair_from keys (rid, Some node) h) (rw itself refl)),
      );
      rising = ahead_rises rid (filter test keys) ordered;
    }
