use Rattle.std.proofs.Common.{rules}
use Rattle.entry_bodies.specs.Bodies.{item_in}
use Rattle.object_store.proofs.Taking.{illegal_stays}
use Rattle.object_store.proofs.replayed.Replayed.take.Goals as goal

pub returns-then-is_some : goal.returns-then-is_some
returns-then-is_some c = λ items h.
    illegal_stays c.args.keyring.now c.args.self.now c.args.self.now.illegal items (item_in c.args.body) (search rules) h
