use Rattle.std.proofs.Common.{refl}
use Rattle.gossip_wire.proofs.FramesFed.{breaks_on, fed_more}
use Rattle.gossip_wire.specs.FrameReaders.{frames_from, state_of}
use Rattle.gossip_wire.specs.Judging.{first_unit}
use Rattle.std.proofs.Common.{[], ◌++◌}
use Rattle.gossip_wire.proofs.frame_reader.FrameReader.feed.Goals as goal

pub returns-in-Ok-clause-ok : goal.returns-in-Ok-clause-ok
returns-in-Ok-clause-ok c = λ fed frames had.
    fed_more fed frames c.read_piece.new.frames.items c.args.self.now
    (record { reader = c.read_piece.new.reader; before = c.args.self.now.before; stop = c.args.self.now.stop })
    c.args.piece.now had c.in-Ok.ensures.ok had.goes_on

pub returns-in-Err-clause-err : goal.returns-in-Err-clause-err
returns-in-Err-clause-err c = λ fed frames had. record {
  stays = refl;
  breaks =
      breaks_on (frames_from (first_unit, []) (fed ++ c.args.piece.now)) (frames_from (state_of c.args.self.now) c.args.piece.now) had.unread frames
      c.read_piece.new.frames.items (had.read c.args.piece.now) had.are c.in-Err.fault c.in-Err.ensures.err;
}
