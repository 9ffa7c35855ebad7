use Rattle.std.proofs.Common.{◌≡◌, ◌-◌, ◌≤◌, []}
use Rattle.gossip_wire.specs.Wires.{Reads, seen}
use Rattle.gossip_wire.proofs.wire.Wire.read_frame.Given as goal

abbrev pub invariant-bytes : goal.invariant-bytes
invariant-bytes g l = record {
  reads : Reads (seen l.fn.self (g.L.Source.left l.fn.self.link)) (seen l.self (g.L.Source.left l.self.link)) [];
  stop : l.self.stop ≡ l.fn.self.stop;
  given : g.L.Sink.given l.self.link ≡ g.L.Sink.given l.fn.self.link;
  later : g.L.Source.faults l.fn.self.link ≤ g.L.Source.faults l.self.link;
  loan : g.L.Source.loan l.self.link ≡ g.L.Source.loan l.fn.self.link;
}

abbrev pub decreases-bytes : goal.decreases-bytes
decreases-bytes g l = l.self.budget - l.self.place
