-- What one look at a pair shows, and the least name so far.
use Rattle.std.specs.Prelude.{◌≡◌, ℕ, ◌⊎◌, Bool, true, false, List, Option, Some, None}
use Rattle.std.specs.declared.cmp.Ordering.TheVariants.{Less}
use Rattle.rad_base.specs.declared.names.Oid.{Oid}
use Rattle.rad_base.specs.Order.{oid_cmp}
use Rattle.git_object.specs.declared.kind.Kind.{Kind}
use Rattle.git_object.specs.declared.link.LinkTo.{LinkTo}
use Rattle.git_object.specs.Links.{links, IsWellFormed}
use Rattle.commit_graph.specs.declared.root.Root.{Root}
use Rattle.commit_graph.specs.declared.look.Looked.{Looked}
use Rattle.commit_graph.specs.declared.look.Looked.TheVariants as looked
use Rattle.commit_graph.specs.declared.answer.Closure.{Closure}
use Rattle.commit_graph.specs.declared.answer.Closure.TheVariants.{Closed, Missing, BadObject}
use Rattle.commit_graph.specs.Objects.{ObjectMap}
use Rattle.commit_graph.specs.Pairs.{IsFit, IsUnfit, IsMissing}

-- the object is as expected, and has these links
pub record HasLinks (objects : ObjectMap) (p : Root) (found : List LinkTo) : Type 0 where
  pub fit : IsFit objects p
  pub are : found ≡ links fit.kind fit.bytes

-- whether a content of this kind is well formed; if it is, these are its links
abbrev pub Reads : Kind → List ℕ → List LinkTo → Bool → Type 0
Reads kind bytes found true = IsWellFormed kind bytes × (found ≡ links kind bytes)
Reads kind bytes found false = IsWellFormed kind bytes → ⊥

-- what a look at the pair shows
abbrev pub Shows : ObjectMap → Root → Looked → Type 0
Shows objects p looked.Missing = IsMissing objects p
Shows objects p looked.Unfit = IsUnfit objects p
Shows objects p (looked.Fit found) = HasLinks objects p found.now

-- the least of the best so far and one more
abbrev pub IsLesser : Option Oid → Oid → Oid → Type 0
IsLesser None oid result = result ≡ oid
IsLesser (Some best) oid result =
    ((oid_cmp oid best ≡ Less) × (result ≡ oid)) ⊎ ((oid_cmp oid best ≡ Less → ⊥) × (result ≡ best))

-- the least name without an object, else the least with an unfit one
abbrev pub answer_of : Option Oid → Option Oid → Closure
answer_of (Some oid) unfit = Missing oid
answer_of None (Some oid) = BadObject oid
answer_of None None = Closed
