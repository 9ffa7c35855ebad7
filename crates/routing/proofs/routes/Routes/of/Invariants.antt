use Rattle.std.proofs.Common.{take}
use Rattle.announcements.specs.Held.{kept_in}
use Rattle.routing.proofs.AddedRoutes.{AreOf}
use Rattle.routing.proofs.routes.Routes.of.Given as goal

abbrev pub invariant-loop-node : goal.invariant-loop-node
invariant-loop-node l = AreOf (kept_in l.table) (take l.node-index l.node-items) l.routes
