use Rattle.std.proofs.Common.{rules}
use Rattle.rad_base.specs.Order.{rid_cmp}
use Rattle.rad_base.proofs.NameOrder.{apart}
use Rattle.object_store.proofs.Keys.{rid_exact}
use Rattle.object_store.proofs.install.stage_install_at.Goals as goal

pub returns-in_err-stage_install-in-Some-clause-others : goal.returns-in_err-stage_install-in-Some-clause-others
returns-in_err-stage_install-in-Some-clause-others c = λ other differs.
    ((c.get_mut.follows.holds (record { slice = c.stage_install.new.slice; claimant = c.in-Some.repository.now.claimant })).3 (search rules)).2 other
    (apart rid_cmp rid_exact c.args.rid.now other differs)

pub returns-in_ok-stage_install-in-Some-clause-others : goal.returns-in_ok-stage_install-in-Some-clause-others
returns-in_ok-stage_install-in-Some-clause-others c = λ other differs.
    ((c.get_mut.follows.holds (record { slice = c.stage_install.new.slice; claimant = c.in-Some.repository.now.claimant })).3 (search rules)).2 other
    (apart rid_cmp rid_exact c.args.rid.now other differs)
