use Rattle.entry_bodies.proofs.Bodies.{one_item}
use Rattle.entry_bodies.proofs.laws.bodies_have_one_item.Goals as goal

pub returns : goal.returns
returns c = one_item
