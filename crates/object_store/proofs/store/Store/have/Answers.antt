use Rattle.std.specs.BTreeMap.{get}
use Rattle.rad_base.specs.Order.{rid_cmp}
use Rattle.object_store.proofs.Wanting.{told_names}
use Rattle.object_store.proofs.store.Store.have.Goals as goal

pub returns-clause-names : goal.returns-clause-names
returns-clause-names g c = λ items s.
    told_names (get rid_cmp c.args.self.now.repositories c.args.rid.now) c.args.rid.now items c.names_at.result (s.each c.args.rid.now) c.names_at.ensures.names
