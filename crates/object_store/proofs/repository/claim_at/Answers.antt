use Rattle.std.proofs.Common.{◌∙◌, ap, rules}
use Rattle.std.specs.BTreeMap.{BTreeMap, get}
use Rattle.rad_base.specs.declared.names.Rid.{Rid}
use Rattle.rad_base.specs.Order.{rid_cmp}
use Rattle.rad_base.proofs.NameOrder.{apart}
use Rattle.object_store.specs.declared.repository.Repository.{Repository}
use Rattle.object_store.proofs.Keys.{rid_exact}
use Rattle.object_store.proofs.repository.claim_at.Goals as goal

pub returns-in-Some-clause-others : goal.returns-in-Some-clause-others
returns-in-Some-clause-others c = λ other differs.
    ((c.get_mut.follows.holds c.claim.new.repository).3 (search rules)).2 other (apart rid_cmp rid_exact c.args.rid.now other differs)

pub returns-in-Ok-clause-others : goal.returns-in-Ok-clause-others
returns-in-Ok-clause-others c = λ other differs.
    c.in-Ok.ensures.updates.2 other (apart rid_cmp rid_exact c.args.rid.now other differs) ∙ ap (λ (m : BTreeMap Rid Repository). get rid_cmp m other) c.get_mut.follows.holds-at-none
