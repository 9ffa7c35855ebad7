use Rattle.std.proofs.Common.{◌≤◌, ◌+◌, length}
use Rattle.keyring.specs.Readers.{HasRead}
use Rattle.keyring.proofs.keyring.Keyring.read.Given as goal

abbrev pub invariant-reading : goal.invariant-reading
invariant-reading l = record {
  left : l.number + length l.rest ≤ length l.bytes + 1;
  read : HasRead l.bytes l.rest l.number l.keyring;
}

abbrev pub decreases-reading : goal.decreases-reading
decreases-reading l = length l.rest
