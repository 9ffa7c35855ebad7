use Rattle.std.proofs.Common.{rules}
use Rattle.turn_lock.proofs.SignsOn.{signs_on}
use Rattle.turn_lock.proofs.turns.Turns.sign_on.Goals as goal

pub fetch_add-requires : goal.fetch_add-requires
fetch_add-requires g c = (c.requires.pass, search rules, signs_on _ _ _ _ _ _ _ _ c.requires.room.1 c.requires.room.0)
