use Rattle.std.proofs.Common.{◌≤◌, ◌-◌, length}
use Rattle.rad_outside.proofs.path_file.fill.Given as goal

abbrev pub invariant-filling : goal.invariant-filling
invariant-filling g l = l.filled ≤ length l.into

abbrev pub decreases-filling : goal.decreases-filling
decreases-filling g l = length l.initial.into - l.filled
