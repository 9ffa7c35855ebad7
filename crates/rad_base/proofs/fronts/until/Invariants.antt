use Rattle.std.proofs.Common.{◌≢◌, ◌<◌, get_or, ℕ}
use Rattle.rad_base.proofs.fronts.until.Given as goal

abbrev pub invariant-loop-at : goal.invariant-loop-at
invariant-loop-at l = (k : ℕ) → k < l.at → get_or l.bytes k 0 ≢ l.stop
