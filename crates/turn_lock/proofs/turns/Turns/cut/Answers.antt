use Rattle.std.proofs.Common.{rules, sym}
use Rattle.turn_lock.proofs.Splits.{splits}
use Rattle.turn_lock.proofs.turns.Turns.cut.Goals as goal

pub split_seat-requires : goal.split_seat-requires
split_seat-requires g c = (
  c.requires.pass,
  search rules,
  rw (sym c.requires.named) (splits _ _ _ _ _ c.args.pass.now.seat.id c.args.share c.args.pass.now.seat.me.0 c.requires.part.0 c.requires.part.1),
)
