use Rattle.std.proofs.Common.{sym}
use Rattle.std.specs.BTreeMap.{get}
use Rattle.rad_base.specs.Order.{rid_cmp}
use Rattle.object_store.proofs.Heads.{head_on, no_head}
use Rattle.object_store.proofs.store.Store.head.Goals as goal

pub returns-in-Ok-Some-clause-head : goal.returns-in-Ok-Some-clause-head
returns-in-Ok-Some-clause-head g c = λ items s.
    head_on (get rid_cmp c.args.self.now.repositories c.args.rid.now) c.in-Some.repository.now c.args.rid.now c.args.self.now.keyring items c.in-Ok-Some.head
    (sym c.in-Some.ensures.value) (s.each c.args.rid.now) s.legal (rw c.in-Ok-Some.field-0-is at c.in-Ok-Some.ensures.told)

pub returns-in-Ok-None-clause-head : goal.returns-in-Ok-None-clause-head
returns-in-Ok-None-clause-head g c = λ items s.
    absurd (no_head (get rid_cmp c.args.self.now.repositories c.args.rid.now) c.in-Some.repository.now c.args.rid.now c.args.self.now.keyring items
    (sym c.in-Some.ensures.value) (s.each c.args.rid.now) s.legal c.requires (rw c.in-Ok-None.field-0-is at c.in-Ok-None.ensures.told))
