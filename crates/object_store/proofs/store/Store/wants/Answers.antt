use Rattle.std.proofs.Common.{refl}
use Rattle.std.specs.BTreeMap.{get}
use Rattle.rad_base.specs.Order.{rid_cmp}
use Rattle.object_store.proofs.Wanting.{stands_still, wanted_on}
use Rattle.object_store.proofs.store.Store.wants.Goals as goal

pub returns-in-Ok-clause-stands : goal.returns-in-Ok-clause-stands
returns-in-Ok-clause-stands g c = λ items s.
    stands_still c.args.self.now _ c.args.rid.now items refl refl refl c.in-Ok.ensures.others c.in-Ok.ensures.same s

pub returns-in-Ok-clause-wanted : goal.returns-in-Ok-clause-wanted
returns-in-Ok-clause-wanted g c = λ items s.
    wanted_on (get rid_cmp c.args.self.now.repositories c.args.rid.now) c.args.rid.now c.args.self.now.keyring items c.args.offer.now c.args.scope.now c.args.stage c.in-Ok.nodes s.legal
    (s.each c.args.rid.now) c.in-Ok.ensures.told

pub returns-in-Err-clause-stands : goal.returns-in-Err-clause-stands
returns-in-Err-clause-stands g c = λ items s.
    stands_still c.args.self.now _ c.args.rid.now items refl refl refl c.in-Err.ensures.others c.in-Err.ensures.same s
