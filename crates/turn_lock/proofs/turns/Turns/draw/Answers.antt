use Rattle.std.proofs.Common.{rules}
use Rattle.turn_lock.proofs.Draws.{draws}
use Rattle.turn_lock.proofs.turns.Turns.draw.Goals as goal

pub fetch_add-requires : goal.fetch_add-requires
fetch_add-requires g c = (
  c.requires.0,
  search rules,
  draws _ _ _ _ _ _ _ _ c.args.pass.now.live c.requires.1.0 c.requires.1.1,
)
