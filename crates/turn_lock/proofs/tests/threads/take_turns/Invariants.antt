use Rattle.std.proofs.Common.{◌≡◌, ◌<◌}
use Rattle.turn_lock.specs.Views.{weight}
use Rattle.turn_lock.specs.Passes.{IsPassOf, IsIdle, knows}
use Rattle.turn_lock.proofs.tests.threads.take_turns.Given as goal

-- the pass has the number that it signed on with, and nothing else of it changed
abbrev pub invariant-loop-by : goal.invariant-loop-by
invariant-loop-by g l =
    IsPassOf l.turns l.pass × IsIdle l.pass × ((knows l.pass).number ≡ l.caller) × (0 < l.caller) × (weight (knows l.pass) ≡ weight (knows l.fn.pass))
