-- Names with which pairs are marked, backwards over links.
use Rattle.std.specs.Prelude.{◌≡◌, ℕ, ◌≤◌, slice_get, List, ◌++◌, ◌⊎◌, Contains, Option, Some}
use Rattle.std.specs.BTreeMap.{get}
use Rattle.std.specs.declared.cmp.Ordering.TheVariants.{Less}
use Rattle.rad_base.specs.declared.names.Oid.{Oid}
use Rattle.rad_base.specs.Order.{oid_cmp}
use Rattle.commit_graph.specs.declared.root.Root.{Root}
use Rattle.commit_graph.specs.declared.backward.Backward.{Backward}
use Rattle.commit_graph.specs.declared.marked.Marks.{Marks}
use Rattle.commit_graph.specs.Pairs.{oid_of}
use Rattle.commit_graph.specs.Walks.{Walk}
use Rattle.commit_graph.specs.PairOrder.{pair_cmp}
use Rattle.commit_graph.specs.Backward.{LinksTo}

-- the mark of a pair
abbrev pub mark_in : Marks → Root → Option Oid
mark_in marks p = get pair_cmp marks.names p

-- the marked pairs, in the order of marking
abbrev pub queue_in : Marks → List Root
queue_in marks = marks.queue.items

-- these pairs are marked with a name, but those that had a mark
pub record MarksAll (old : Marks) (pairs : List Root) (oid : Oid) (new : Marks) : Type 0 where
  pub kept : (p : Root) (o : Oid) → mark_in old p ≡ Some o → mark_in new p ≡ Some o
  pub all : (p : Root) → Contains pairs p → (o : Oid) × (mark_in new p ≡ Some o)
  pub only : (p : Root) (o : Oid) → mark_in new p ≡ Some o → (mark_in old p ≡ Some o) ⊎ (Contains pairs p × (o ≡ oid))
  pub more : List Root
  pub queued : queue_in new ≡ queue_in old ++ more
  pub added : (p : Root) → Contains more p → mark_in new p ≡ Some oid
  pub each : (p : Root) (o : Oid) → mark_in new p ≡ Some o → (mark_in old p ≡ Some o) ⊎ Contains more p

-- a name is not above another
abbrev pub AtMost : Oid → Oid → Type 0
AtMost a b = oid_cmp b a ≡ Less → ⊥

-- a walk from p leads to a source of this name
pub record FindsSource {X : Type 0} (Step : X → X → Type 0) (IsSource : X → Type 0) (name : X → Oid) (p : X) (oid : Oid) : Type 0 where
  pub source : X
  pub holds : IsSource source
  pub path : List X
  pub walk : Walk Step p path source
  pub named : name source ≡ oid

-- the item has a mark, which is not above the name
abbrev pub MarkedBy : {X : Type 0} → (X → Option Oid) → X → Oid → Type 0
MarkedBy mark p top = (oid : Oid) × (mark p ≡ Some oid) × AtMost oid top

-- the names do not fall
abbrev pub RisesByName : List Root → Type 0
RisesByName sources =
    (i j : ℕ) (x y : Root) → i ≤ j → slice_get sources i ≡ Some x → slice_get sources j ≡ Some y → AtMost x.oid y.oid

-- each mark is the name of a source that is reached, goes on backwards, and is not above the source's name at a source
pub record AreMarks (back : Backward) (sources : List Root) (marks : Marks) : Type 0 where
  pub sound : (p : Root) (oid : Oid) → mark_in marks p ≡ Some oid → FindsSource (LinksTo back) (Contains sources) oid_of p oid
  pub onward : (p q : Root) (oid : Oid) → mark_in marks q ≡ Some oid → LinksTo back p q → MarkedBy (mark_in marks) p oid
  pub sourced : (s : Root) → Contains sources s → MarkedBy (mark_in marks) s s.oid
