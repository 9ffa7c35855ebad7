-- What lies beyond the names that are known to be closed.
use Rattle.std.specs.Prelude.{◌≡◌, ℕ, ◌+◌, ◌*◌, ◌≤◌, false, ◌⊎◌, ◌↔◌, List, [], ◌∷◌, length}
use Rattle.std.specs.Prelude.{sum_by, Contains, Option, Some, None, IsTrue, Result, Ok, Err}
use Rattle.std.specs.BTreeSet.{BTreeSet, contains}
use Rattle.rad_base.specs.declared.names.Oid.{Oid}
use Rattle.rad_base.specs.Order.{oid_cmp}
use Rattle.git_object.specs.declared.kind.Kind.{Kind}
use Rattle.git_object.specs.declared.link.LinkTo.{LinkTo}
use Rattle.git_object.specs.Links.{links}
use Rattle.commit_graph.specs.declared.root.Root.{Root}
use Rattle.commit_graph.specs.declared.answer.Closure.{Closure}
use Rattle.commit_graph.specs.declared.answer.Closure.TheVariants.{Closed, Missing, BadObject}
use Rattle.commit_graph.specs.declared.fault.GetFault.{GetFault}
use Rattle.commit_graph.specs.declared.fault.GetFault.TheVariants.{DiskFault, Changed, NoMemory}
use Rattle.commit_graph.specs.Objects.{Object, ObjectMap}
use Rattle.commit_graph.specs.Pairs.{IsFit, IsLink}
use Rattle.commit_graph.specs.Walks.{Reached}
use Rattle.commit_graph.specs.Closures.{IsClosed}

-- the name has an object, and is closed as the kind of it
pub record IsClosedName (objects : ObjectMap) (oid : Oid) : Type 0 where
  pub kind : Kind
  pub bytes : List ℕ
  pub there : objects oid ≡ Some (kind, bytes)
  pub closed : IsClosed objects (record { oid = oid; kind = Some kind } ∷ [])

-- the name is one of the known ones
abbrev pub IsKnown : BTreeSet Oid → Oid → Type 0
IsKnown known oid = IsTrue (contains oid_cmp known oid)

-- each known name is closed
abbrev pub AllClosed : ObjectMap → BTreeSet Oid → Type 0
AllClosed objects known = (oid : Oid) → IsKnown known oid → IsClosedName objects oid

-- q is a link of p, whose name is not known
pub record IsLinkBeyond (objects : ObjectMap) (known : BTreeSet Oid) (p q : Root) : Type 0 where
  pub link : IsLink objects p q
  pub unknown : contains oid_cmp known p.oid ≡ false

-- a walk over no known name leads from a root to a pair of this name
pub record IsReachedBeyond (objects : ObjectMap) (known : BTreeSet Oid) (roots : List Root) (oid : Oid) : Type 0 where
  pub pair : Root
  pub reached : Reached (IsLinkBeyond objects known) roots pair
  pub name : pair.oid ≡ oid

-- each name that is so reached and not known is among these
abbrev pub CoversBeyond : ObjectMap → BTreeSet Oid → List Root → List Oid → Type 0
CoversBeyond objects known roots names =
    (oid : Oid) → IsReachedBeyond objects known roots oid → contains oid_cmp known oid ≡ false → Contains names oid

-- each pair to which a walk over no known name leads is among these
abbrev pub CoversPairsBeyond : ObjectMap → BTreeSet Oid → List Root → List Root → Type 0
CoversPairsBeyond objects known roots pairs = (pair : Root) → Reached (IsLinkBeyond objects known) roots pair → Contains pairs pair

-- a walk over no known name leads from a root to a pair of this name, whose object is as expected and well formed
pub record IsFitBeyond (objects : ObjectMap) (known : BTreeSet Oid) (roots : List Root) (oid : Oid) : Type 0 where
  pub pair : Root
  pub reached : Reached (IsLinkBeyond objects known) roots pair
  pub name : pair.oid ≡ oid
  pub fit : IsFit objects pair

-- each name that is so reached as fit and not known is among these
abbrev pub CoversFitBeyond : ObjectMap → BTreeSet Oid → List Root → List Oid → Type 0
CoversFitBeyond objects known roots names =
    (oid : Oid) → IsFitBeyond objects known roots oid → contains oid_cmp known oid ≡ false → Contains names oid

-- the links of an object, none where there is none
abbrev pub links_in : Option Object → List LinkTo
links_in None = []
links_in (Some object) = links object.0 object.1

-- how many links the object of a name has
abbrev pub link_count : ObjectMap → Oid → ℕ
link_count objects oid = length (links_in (objects oid))

-- a walk takes at most as many steps as the names that are so reached and not known, the links of
-- those that are so reached as fit, and twice the roots
abbrev pub HasCostBeyond : ObjectMap → BTreeSet Oid → List Root → ℕ → ℕ → Type 0
HasCostBeyond objects known roots before now =
    (names fit : List Oid) → CoversBeyond objects known roots names
    → CoversFitBeyond objects known roots fit
    → now ≤ before + length names + sum_by (link_count objects) fit + 2 * length roots

-- a walk takes at most as many steps as the names that are so reached and not known, and the pairs
-- to which it leads: it tests each pair once
abbrev pub TestsPairsOnce : ObjectMap → BTreeSet Oid → List Root → ℕ → ℕ → Type 0
TestsPairsOnce objects known roots before now =
    (names : List Oid) (pairs : List Root) → CoversBeyond objects known roots names
    → CoversPairsBeyond objects known roots pairs → now ≤ before + length names + length pairs

-- the names that are known once all is closed: those before and those that are reached over none of them
abbrev pub GrowsBeyond : ObjectMap → BTreeSet Oid → List Root → BTreeSet Oid → Closure → Type 0
GrowsBeyond objects known roots new Closed = (oid : Oid) → IsKnown new oid ↔ (IsKnown known oid ⊎ IsReachedBeyond objects known roots oid)
GrowsBeyond objects known roots new (Missing oid) = new ≡ known
GrowsBeyond objects known roots new (BadObject oid) = new ≡ known

-- no name is lost
abbrev pub Keeps : BTreeSet Oid → BTreeSet Oid → Type 0
Keeps known new = (oid : Oid) → IsKnown known oid → IsKnown new oid

-- the known names stay but at Closed and after want of memory, and then none is lost
abbrev pub Leaves : Result Closure GetFault → BTreeSet Oid → BTreeSet Oid → Type 0
Leaves (Ok Closed) known new = Keeps known new
Leaves (Ok (Missing oid)) known new = new ≡ known
Leaves (Ok (BadObject oid)) known new = new ≡ known
Leaves (Err NoMemory) known new = Keeps known new
Leaves (Err DiskFault) known new = new ≡ known
Leaves (Err (Changed change)) known new = new ≡ known
