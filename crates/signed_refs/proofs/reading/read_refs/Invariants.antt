use Rattle.std.proofs.Common.{◌≤◌, length}
use Rattle.signed_refs.specs.Lines.{SpellsTo}
use Rattle.signed_refs.proofs.reading.read_refs.Given as goal

abbrev pub invariant-reading : goal.invariant-reading
invariant-reading l = record {
  few : length l.refs ≤ 65536;
  spelled : SpellsTo l.refs l.rest l.bytes;
}

abbrev pub decreases-reading : goal.decreases-reading
decreases-reading l = length l.rest
