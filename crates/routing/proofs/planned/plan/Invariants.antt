use Rattle.routing.proofs.Planning.{PlansSome}
use Rattle.routing.proofs.planned.plan.Given as goal

abbrev pub invariant-loop-rid : goal.invariant-loop-rid
invariant-loop-rid l = PlansSome l.rules l.links l.routes.pairs.keys l.rid-iterator l.planned.items
