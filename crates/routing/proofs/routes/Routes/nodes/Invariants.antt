use Rattle.std.proofs.Common.{◌≡◌, ◌++◌}
use Rattle.routing.proofs.RouteNodes.{nodes_ahead, pairs_from}
use Rattle.routing.proofs.routes.Routes.nodes.Given as goal

abbrev pub invariant-loop-other : goal.invariant-loop-other
invariant-loop-other l = l.nodes ++ nodes_ahead l.rid l.other-iterator ≡ nodes_ahead l.rid (pairs_from l.self l.rid)
