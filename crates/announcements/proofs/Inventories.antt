-- The nodes whose inventory is kept in some places.
use Rattle.std.proofs.Common.{◌≡◌, ℕ, Bool, true, false, cond, List, [], ◌∷◌, ◌++◌, Option, Some, None, refl, sym, ap, subst, ⊎_elim, inl, inr, ◌⊎◌, ◌∙◌}
use Rattle.std.specs.Prelude.{Contains, IsSome}
use Rattle.std.specs.List.{AllByRecursion}
use Rattle.std.specs.List.Sorted.{IsStrictlySortedBy}
use Rattle.std.specs.Map.{keys_of}
use Rattle.std.specs.declared.cmp.Ordering.TheVariants.{Less, Equal, Greater}
use Rattle.std.specs.declared.cmp.Ordering.{Ordering}
use Rattle.std.specs.Ordering.{ordering_then}
use Rattle.std.proofs.lemmas.List.{append_assoc}
use Rattle.rad_base.proofs.Members.{contains_cases, contains_head, contains_nothing, contains_tail}
use Rattle.rad_base.specs.Order.{RisesBy, nid_cmp}
use Rattle.rad_base.specs.declared.names.Nid.{Nid}
use Rattle.rad_base.specs.declared.names.Rid.{Rid}
use Rattle.announcements.specs.Held.{HaveInventories, inventory_key, is_inventory_key, kept_at, map_cmp}
use Rattle.announcements.specs.Keys.{key_cmp}
use Rattle.announcements.specs.declared.kept.Kept.{Kept}
use Rattle.announcements.specs.declared.key.Key.{Key}
use Rattle.announcements.specs.declared.key.Topic.{Topic}
use Rattle.announcements.specs.declared.key.Topic.TheVariants as topics
use Rattle.announcements.proofs.Entries.{Map, Places, are_kept, stands_as, stands_from}
use Rattle.announcements.proofs.KeyOrder.{as_parts}

abbrev pub with_node : Key → Option Kept → List Nid → List Nid
with_node key None more = more
with_node key (Some kept) more = cond (is_inventory_key key) (key.node ∷ more) more

abbrev pub nodes_in : Places → List Nid
nodes_in [] = []
nodes_in (place ∷ places) = with_node place.0 place.1 (nodes_in places)

-- an inventory more
pub nodes_more : (nodes : List Nid) (key : Key) (kept : Kept) (places : Places) (all : List Nid)
    → is_inventory_key key ≡ true → nodes ++ nodes_in ((key, Some kept) ∷ places) ≡ all → (nodes ++ key.node ∷ []) ++ nodes_in places ≡ all
nodes_more nodes key kept places all e h = append_assoc nodes (key.node ∷ []) (nodes_in places) ∙ rw e at h

-- another announcement
pub nodes_same : (nodes : List Nid) (key : Key) (kept : Kept) (places : Places) (all : List Nid)
    → is_inventory_key key ≡ false → nodes ++ nodes_in ((key, Some kept) ∷ places) ≡ all → nodes ++ nodes_in places ≡ all
nodes_same nodes key kept places all e h = rw e at h

-- the key of an inventory is that of its node
by_parts : (topic : Topic) (node : Nid) (rid : Option Rid) → is_inventory_key (record { topic = topic; node = node; rid = rid }) ≡ true
    → record { topic = topic; node = node; rid = rid } ≡ inventory_key node
by_parts topics.Node node rid e = cc e
by_parts topics.Inventory node None e = refl
by_parts topics.Inventory node (Some rid) e = cc e
by_parts topics.Refs node rid e = cc e

inventory_is : (key : Key) → is_inventory_key key ≡ true → key ≡ inventory_key key.node
inventory_is key e = by_parts key.topic key.node key.rid e

-- this place keeps the inventory of a node
abbrev IsPlace : Places → Nid → Type 0
IsPlace places node = (kept : Kept) × Contains places (inventory_key node, Some kept)

abbrev IsOne : Key × Option Kept → Key × Option Kept → Type 0
IsOne a b = a ≡ b

from_place : (key : Key) (o : Option Kept) (more : List Nid) (node : Nid) → Contains (with_node key o more) node
    → ((kept : Kept) × IsOne (key, o) (inventory_key node, Some kept)) ⊎ Contains more node
from_place key None more node h = inr h
from_place key (Some kept) more node h = by_test (is_inventory_key key) refl h
  where
    by_test : (b : Bool) → is_inventory_key key ≡ b → Contains (cond b (key.node ∷ more) more) node
        → ((k : Kept) × IsOne (key, Some kept) (inventory_key node, Some k)) ⊎ Contains more node
    by_test true e h =
        ⊎_elim (λ a. inl (kept, ap (λ (k : Key). (k, Some kept)) (inventory_is key e ∙ ap inventory_key a))) (λ a. inr a) (contains_cases key.node more node h)
    by_test false e h = inr h

listed_from : (places : Places) (node : Nid) → Contains (nodes_in places) node → IsPlace places node
listed_from [] node h = absurd (contains_nothing node h)
listed_from (p ∷ places) node h =
    ⊎_elim (λ a. (a.0, subst (λ (e : Key × Option Kept). Contains (p ∷ places) e) a.1 (contains_head p places)))
    (λ a. let r = listed_from places node a in (r.0, contains_tail p places (inventory_key node, Some r.0) r.1))
    (from_place p.0 p.1 (nodes_in places) node h)

node_behind : (key : Key) (o : Option Kept) (more : List Nid) (node : Nid) → Contains more node → Contains (with_node key o more) node
node_behind key None more node h = h
node_behind key (Some kept) more node h = by_test (is_inventory_key key)
  where
    by_test : (b : Bool) → Contains (cond b (key.node ∷ more) more) node
    by_test true = contains_tail key.node more node h
    by_test false = h

listed_as : (places : Places) (node : Nid) (kept : Kept) → Contains places (inventory_key node, Some kept) → Contains (nodes_in places) node
listed_as [] node kept h = absurd (contains_nothing (inventory_key node, Some kept) h)
listed_as (p ∷ places) node kept h =
    ⊎_elim (λ a. subst (λ (e : Key × Option Kept). Contains (with_node e.0 e.1 (nodes_in places)) node) (sym a) (contains_head node (nodes_in places)))
    (λ a. node_behind p.0 p.1 (nodes_in places) node (listed_as places node kept a))
    (contains_cases p places (inventory_key node, Some kept) h)

-- ------ in order

abbrev IsBelowNodes : Nid → List Nid → Type 0
IsBelowNodes node nodes = AllByRecursion (λ n. nid_cmp node n ≡ Less) nodes

then_less : (o : Ordering) → ordering_then o Equal ≡ Less → o ≡ Less
then_less Less e = refl
then_less Equal e = cc e
then_less Greater e = cc e

node_below : (key other : Key) → is_inventory_key key ≡ true → is_inventory_key other ≡ true → map_cmp key other ≡ Less
    → nid_cmp key.node other.node ≡ Less
node_below key other e f h =
    let less : key_cmp (inventory_key key.node) (inventory_key other.node) ≡ Less =
    sym (ap (λ (k : Key). key_cmp k (inventory_key other.node)) (inventory_is key e)) ∙ sym (ap (key_cmp key) (inventory_is other f)) ∙ sym (as_parts key other) ∙ h in
    then_less (nid_cmp key.node other.node) less

below_node : (key place : Key) (o : Option Kept) (more : List Nid) → is_inventory_key key ≡ true → map_cmp key place ≡ Less
    → IsBelowNodes key.node more → IsBelowNodes key.node (with_node place o more)
below_node key place None more e first rest = rest
below_node key place (Some kept) more e first rest = by_test (is_inventory_key place) refl
  where
    by_test : (b : Bool) → is_inventory_key place ≡ b → IsBelowNodes key.node (cond b (place.node ∷ more) more)
    by_test true f = (node_below key place e f first, rest)
    by_test false f = rest

below_nodes : (key : Key) (places : Places) → is_inventory_key key ≡ true → AllByRecursion (λ k. map_cmp key k ≡ Less) (keys_of places)
    → IsBelowNodes key.node (nodes_in places)
below_nodes key [] e h = tt
below_nodes key (p ∷ places) e h = below_node key p.0 p.1 (nodes_in places) e h.0 (below_nodes key places e h.1)

rises_on : (node : Nid) (nodes : List Nid) → IsBelowNodes node nodes → RisesBy (λ x. x) nid_cmp nodes → RisesBy (λ x. x) nid_cmp (node ∷ nodes)
rises_on node [] below rising = tt
rises_on node (n ∷ nodes) below rising = (below.0, rising)

node_rises : (key : Key) (o : Option Kept) (more : List Nid) → (is_inventory_key key ≡ true → IsBelowNodes key.node more)
    → RisesBy (λ x. x) nid_cmp more → RisesBy (λ x. x) nid_cmp (with_node key o more)
node_rises key None more below rising = rising
node_rises key (Some kept) more below rising = by_test (is_inventory_key key) refl
  where
    by_test : (b : Bool) → is_inventory_key key ≡ b → RisesBy (λ x. x) nid_cmp (cond b (key.node ∷ more) more)
    by_test true e = rises_on key.node more (below e) rising
    by_test false e = rising

nodes_rise : (places : Places) → IsStrictlySortedBy map_cmp (keys_of places) → RisesBy (λ x. x) nid_cmp (nodes_in places)
unfolding IsStrictlySortedBy
nodes_rise [] h = tt
nodes_rise (p ∷ places) h = node_rises p.0 p.1 (nodes_in places) (λ e. below_nodes p.0 places e h.0) (nodes_rise places h.1)

some_kept : (o : Option Kept) → IsSome o → (kept : Kept) × (o ≡ Some kept)
some_kept None h = cc h
some_kept (Some kept) h = (kept, refl)

-- these are the nodes of the inventories that the places keep
pub have_inventories : (places : Map) → IsStrictlySortedBy map_cmp (keys_of places.entries) → HaveInventories (kept_at places) (nodes_in places.entries)
have_inventories places sorted = record {
  each = λ node. (
    λ there.
        let place = listed_from places.entries node there in
        let kept : kept_at places (inventory_key node) ≡ Some place.0 =
        ((are_kept places sorted).each (inventory_key node) place.0).0 (stands_as places.entries (inventory_key node) place.0 place.1) in
        rw kept refl,
    λ found.
        let kept = some_kept (kept_at places (inventory_key node)) found in
        listed_as places.entries node kept.0
        (stands_from places.entries (inventory_key node) kept.0 (((are_kept places sorted).each (inventory_key node) kept.0).1 kept.1)),
  );
  rising = nodes_rise places.entries sorted;
}
