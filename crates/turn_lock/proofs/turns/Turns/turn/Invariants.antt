use Rattle.std.proofs.Common.{◌≡◌}
use Rattle.turn_lock.specs.Passes.{IsSamePass}
use Rattle.turn_lock.proofs.turns.Turns.turn.Given as goal

-- the pass keeps its ticket while it waits
abbrev pub invariant-loop : goal.invariant-loop
invariant-loop g l = IsSamePass l.initial.pass l.pass × (l.pass.seat.me ≡ l.initial.pass.seat.me)
