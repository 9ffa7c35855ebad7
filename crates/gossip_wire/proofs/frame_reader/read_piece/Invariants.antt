use Rattle.std.proofs.Common.{◌-◌, length}
use Rattle.gossip_wire.specs.FrameReaders.{GaveFrames}
use Rattle.gossip_wire.proofs.frame_reader.read_piece.Given as goal

abbrev pub invariant-pieces : goal.invariant-pieces
invariant-pieces l = GaveFrames l.fn.reader l.reader l.piece l.used l.frames.items

abbrev pub decreases-pieces : goal.decreases-pieces
decreases-pieces l = length l.piece - l.used
