use Rattle.std.proofs.Common.{◌≡◌, ◌≤◌, ◌+◌, ◌-◌, length, vec_len}
use Rattle.std.specs.Io.KnownBytes.{Consumes}
use Rattle.rad_node.proofs.transfer.read_all.Given as goal

abbrev pub invariant-taking : goal.invariant-taking
invariant-taking g l = record {
  later : g.S.Source.faults l.initial.source ≤ g.S.Source.faults l.source;
  read : Consumes (g.S.Source.left l.initial.source) (g.S.Source.left l.source) l.all.items;
  piece : length l.piece.items ≡ 65536;
  few : length l.all.items ≤ l.limit + 1;
}

abbrev pub decreases-taking : goal.decreases-taking
decreases-taking g l = l.limit + 1 - vec_len l.all
