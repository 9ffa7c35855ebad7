use Rattle.std.proofs.Common.{rules, ◌∙◌, arith}
use Rattle.turn_lock.proofs.Joins.{joins}
use Rattle.turn_lock.proofs.Learns.{learns}
use Rattle.turn_lock.proofs.turns.Turns.join.Goals as goal

pub join_seat-requires : goal.join_seat-requires
join_seat-requires g c = let idle = c.requires.2 in (
  c.requires.0,
  c.requires.1,
  idle.2,
  search rules,
  joins _ _ _ _ _ _ _ _ _ c.args.pass.now.live c.args.other.live idle.0 idle.1,
)

pub load-requires : goal.load-requires
load-requires g c = (
  c.join_seat.ensures.0 ∙ c.requires.0,
  search rules,
  learns _ _ _ _ _ _ _ _ (let live = c.args.pass.now.live in rw c.join_seat.ensures.2 (omega arith)),
)
