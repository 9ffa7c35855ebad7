-- What is reached from some roots, and whether all of it is there and well formed.
use Rattle.std.specs.Prelude.{◌≡◌, List, [], ◌∷◌, Contains}
use Rattle.std.specs.declared.cmp.Ordering.TheVariants.{Less}
use Rattle.rad_base.specs.declared.names.Oid.{Oid}
use Rattle.rad_base.specs.Order.{oid_cmp}
use Rattle.git_object.specs.Names.{name}
use Rattle.commit_graph.specs.declared.root.Root.{Root}
use Rattle.commit_graph.specs.declared.answer.Closure.{Closure}
use Rattle.commit_graph.specs.declared.answer.Closure.TheVariants.{Closed, Missing, BadObject}
use Rattle.commit_graph.specs.Objects.{ObjectMap}
use Rattle.commit_graph.specs.Pairs.{IsFit, IsUnfit, IsMissing, IsLink, as_commit}
use Rattle.commit_graph.specs.Walks.{Reached}

-- links lead from a root to the pair
abbrev pub IsReached : ObjectMap → List Root → Root → Type 0
IsReached objects roots p = Reached (IsLink objects) roots p

-- each pair that is reached is among these
abbrev pub CoversReached : ObjectMap → List Root → List Root → Type 0
CoversReached objects roots pairs = (p : Root) → IsReached objects roots p → Contains pairs p

-- a pair of this name is reached
pub record IsReachedName (objects : ObjectMap) (roots : List Root) (oid : Oid) : Type 0 where
  pub pair : Root
  pub reached : IsReached objects roots pair
  pub name : pair.oid ≡ oid

-- a pair of this name is reached, and P holds of it
pub record IsReachedAs (objects : ObjectMap) (roots : List Root) (P : Root → Type 0) (oid : Oid) : Type 0 where
  pub pair : Root
  pub reached : IsReached objects roots pair
  pub holds : P pair
  pub name : pair.oid ≡ oid

-- a pair of the list has this name
abbrev pub HasName : List Root → Oid → Type 0
HasName pairs oid = (pair : Root) × Contains pairs pair × (pair.oid ≡ oid)

-- P holds of the name, and of no lesser one
pub record IsLeast (P : Oid → Type 0) (oid : Oid) : Type 0 where
  pub holds : P oid
  pub least : (other : Oid) → P other → oid_cmp other oid ≡ Less → ⊥

-- P holds of no name
abbrev pub HasNone : (Oid → Type 0) → Type 0
HasNone P = (oid : Oid) → P oid → ⊥

-- the pair has an object of the expected kind, well formed, whose name is the pair's
pub record IsHeld (objects : ObjectMap) (p : Root) : Type 0 where
  pub fit : IsFit objects p
  pub named : name fit.kind fit.bytes ≡ p.oid

-- each reached pair has its object
abbrev pub IsClosed : ObjectMap → List Root → Type 0
IsClosed objects roots = (p : Root) → IsReached objects roots p → IsHeld objects p

-- a name is closed as a commit
abbrev pub IsClosedCommit : ObjectMap → Oid → Type 0
IsClosedCommit objects oid = IsClosed objects (as_commit oid ∷ [])

-- a reached name without an object
abbrev pub IsMissingName : ObjectMap → List Root → Oid → Type 0
IsMissingName objects roots oid = IsReachedAs objects roots (IsMissing objects) oid

-- a reached name whose object is not as a pair expects it, or malformed
abbrev pub IsUnfitName : ObjectMap → List Root → Oid → Type 0
IsUnfitName objects roots oid = IsReachedAs objects roots (IsUnfit objects) oid

-- the least name without an object; else the least whose object is unfit; else all is closed
abbrev pub IsClosure : ObjectMap → List Root → Closure → Type 0
IsClosure objects roots (Missing oid) = IsLeast (IsMissingName objects roots) oid
IsClosure objects roots (BadObject oid) = HasNone (IsMissingName objects roots) × IsLeast (IsUnfitName objects roots) oid
IsClosure objects roots Closed = IsClosed objects roots
