use Rattle.std.proofs.Common.{◌≡◌, ◌-◌, ◌≤◌, length, take}
use Rattle.std.specs.Io.KnownBytes.{Appends}
use Rattle.gossip_wire.proofs.wire.Wire.send.Given as goal

abbrev pub invariant-bytes : goal.invariant-bytes
invariant-bytes g l = record {
  within : l.given ≤ length l.bytes;
  given : Appends (g.L.Sink.given l.fn.self.link) (g.L.Sink.given l.self.link) (take l.given l.bytes);
  later : g.L.Sink.faults l.fn.self.link ≤ g.L.Sink.faults l.self.link;
  left : g.L.Source.left l.self.link ≡ g.L.Source.left l.fn.self.link;
  same : l.self ≡ record l.fn.self { link = l.self.link };
  loan : g.L.Source.loan l.self.link ≡ g.L.Source.loan l.fn.self.link;
}

abbrev pub decreases-bytes : goal.decreases-bytes
decreases-bytes g l = length l.bytes - l.given
