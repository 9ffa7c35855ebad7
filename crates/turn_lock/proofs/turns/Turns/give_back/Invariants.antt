use Rattle.std.proofs.Common.{◌≡◌, [], ◌∷◌, Some, length, take, drop}
use Rattle.turn_lock.specs.Passes.{IsSamePass, knows}
use Rattle.turn_lock.proofs.Counted.{counted_view}
use Rattle.turn_lock.proofs.turns.Turns.give_back.Given as goal

-- so many of the new entries were counted, seen and made, and the value is back
abbrev pub invariant-loop : goal.invariant-loop
invariant-loop g l =
    let v = knows l.fn.pass in let new = drop (length v.seen) (g.T.Told.list l.fn.held.value) in
    IsSamePass l.fn.pass l.pass × (l.pass.seat.me ≡ (counted_view (take l.counter new) v, (0, Some l.fn.held.value) ∷ []))
