use Rattle.std.proofs.Common.{◌≤◌, length}
use Rattle.git_object.specs.Views.{last_key}
use Rattle.git_object.proofs.TreeTexts.{IsReadTo}
use Rattle.git_object.proofs.tree.read_tree.Given as goal

abbrev pub invariant-reading : goal.invariant-reading
invariant-reading l = record {
  left : length l.rest ≤ length l.bytes;
  read : IsReadTo l.bytes l.rest (last_key l.before);
}

abbrev pub decreases-reading : goal.decreases-reading
decreases-reading l = length l.rest
