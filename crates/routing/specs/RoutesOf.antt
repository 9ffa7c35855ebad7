-- Which nodes have a repository, by the inventories that are kept.
use Rattle.std.specs.Prelude.{◌≡◌, ◌↔◌, Bool, List, Option, Some, IsTrue, Contains}
use Rattle.std.specs.BTreeSet.{contains}
use Rattle.std.specs.Option.{option_cmp}
use Rattle.std.specs.Ordering.{ordering_then}
use Rattle.std.specs.declared.cmp.Ordering.{Ordering}
use Rattle.rad_base.specs.Order.{RisesBy, nid_cmp, rid_cmp}
use Rattle.rad_base.specs.declared.names.Nid.{Nid}
use Rattle.rad_base.specs.declared.names.Rid.{Rid}
use Rattle.announcements.specs.Held.{inventory_of}
use Rattle.announcements.specs.Tables.{Keeping}
use Rattle.routing.specs.declared.routes.Routes.{Routes}

-- the inventory of a node is kept, and it names a repository
pub record Names (table : Keeping) (node : Nid) (rid : Rid) : Type 0 where
  pub rids : List Rid
  pub kept : inventory_of table node ≡ Some rids
  pub named : Contains rids rid

-- the order of pairs: by repository, then by key, none below each
abbrev pub pair_cmp : Rid × Option Nid → Rid × Option Nid → Ordering
pair_cmp a b = ordering_then (rid_cmp a.0 b.0) (option_cmp nid_cmp a.1 b.1)

-- whether routes have a node for a repository
abbrev pub has_route : Routes → Rid → Nid → Bool
has_route routes rid node = contains pair_cmp routes.pairs (rid, Some node)

-- routes have exactly the nodes whose kept inventory names the repository
abbrev pub AreRoutes : Keeping → Routes → Type 0
AreRoutes table routes = (rid : Rid) (node : Nid) → IsTrue (has_route routes rid node) ↔ Names table node rid

-- the nodes that routes have for a repository, rising
pub record AreNodes (routes : Routes) (rid : Rid) (nodes : List Nid) : Type 0 where
  pub each : (node : Nid) → Contains nodes node ↔ IsTrue (has_route routes rid node)
  pub rising : RisesBy (λ node. node) nid_cmp nodes
