use Rattle.rad_base.specs.Order.{rid_cmp}
use Rattle.rad_base.proofs.NameOrder.{apart}
use Rattle.object_store.proofs.Keys.{rid_exact}
use Rattle.object_store.proofs.install.ensure_at.Goals as goal

pub returns-in-Ok-clause-others : goal.returns-in-Ok-clause-others
returns-in-Ok-clause-others c = λ other differs. c.in-Ok.ensures.updates.2 other (apart rid_cmp rid_exact c.args.rid.now other differs)
