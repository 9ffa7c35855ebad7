use Rattle.std.proofs.Common.{rules}
use Rattle.rad_base.specs.Order.{rid_cmp}
use Rattle.rad_base.proofs.NameOrder.{apart}
use Rattle.object_store.proofs.Keys.{rid_exact}
use Rattle.object_store.proofs.Wanting.{wanted_none}
use Rattle.object_store.proofs.wanted.wants_at.Goals as goal

pub returns-in-Some-clause-others : goal.returns-in-Some-clause-others
returns-in-Some-clause-others c = λ other differs.
    ((c.get_mut.follows.holds (record { slice = c.wants_on.new.slice; claimant = c.in-Some.repository.now.claimant })).3 (search rules)).2 other
    (apart rid_cmp rid_exact c.args.rid.now other differs)

pub returns-clause-told : goal.returns-clause-told
returns-clause-told c =
    wanted_none _ c.args.rid.now c.args.keyring.now c.args.offer.now c.args.scope.now c.args.stage c.new-empty.result c.wants_on-2.result c.in-None.ensures.value
    c.new-empty.ensures.objects c.new-empty.ensures.state c.wants_on-2.ensures.told
