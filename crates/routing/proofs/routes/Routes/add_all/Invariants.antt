use Rattle.std.proofs.Common.{take}
use Rattle.routing.proofs.AddedRoutes.{AddsAll}
use Rattle.routing.proofs.routes.Routes.add_all.Given as goal

abbrev pub invariant-loop-rid : goal.invariant-loop-rid
invariant-loop-rid l = AddsAll l.fn.self l.node (take l.rid-index l.rids) l.self
