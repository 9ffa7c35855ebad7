use Rattle.std.proofs.Common.{◌≡◌, ◌≤◌, ◌+◌, ◌*◌, ◌++◌, take, length}
use Rattle.rad_vectors.specs.Fixture.{branch_lines}
use Rattle.rad_vectors.proofs.three_delegates.push_branches.Given as goal

abbrev pub invariant-branches : goal.invariant-branches
invariant-branches l =
    record {
      text : l.bytes.items ≡ l.initial.bytes.items ++ branch_lines 0 (take l.commit-index l.commits);
      size : length l.bytes.items ≤ length l.initial.bytes.items + 56 * l.commit-index;
      number : l.number ≡ l.commit-index;
    }
