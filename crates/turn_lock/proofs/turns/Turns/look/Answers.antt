use Rattle.std.proofs.Common.{rules, Some, refl, ◌∙◌}
use Rattle.turn_lock.proofs.Looks.{looks}
use Rattle.turn_lock.proofs.turns.Turns.look.Goals as goal

pub load-requires : goal.load-requires
load-requires g c = let w = c.requires.1 in (
  c.requires.0,
  search rules,
  looks _ _ _ _ _ _ _ w.0 _ c.args.pass.now.live w.2 w.3,
)

-- where the ticket that is served is this pass's, the pass has the slot in hand
pub exchange-requires : goal.exchange-requires
exchange-requires g c =
    let w = c.requires.1 in
    let hit = (c.load.ensures.2 w.0 w.2).0 (c.if-load-ticket.false ∙ w.1) in
    (c.load.ensures.0 ∙ c.requires.0, (Some hit.0, rw hit.1 refl))
