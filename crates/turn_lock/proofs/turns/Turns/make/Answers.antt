use Rattle.std.proofs.Common.{refl}
use Rattle.turn_lock.proofs.Opens.{opens}
use Rattle.turn_lock.proofs.turns.Turns.make.Goals as goal

pub new-requires : goal.new-requires
new-requires g c = rw (c.of-about.ensures, c.in_ok-slots.ensures.ok) (opens _ _ _ _ _ c.args.value refl refl c.requires)
