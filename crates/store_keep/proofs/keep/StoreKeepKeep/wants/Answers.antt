use Rattle.std.proofs.Common.{[], subst}
use Rattle.std.specs.Prelude.{IfErr}
use Rattle.repo_slice.specs.Keeps.{StopsIn}
use Rattle.store_keep.specs.Kept.{Kept}
use Rattle.store_keep.proofs.Keeping.{has_made, kept_of, stops_by_memory}
use Rattle.store_keep.proofs.keep.StoreKeepKeep.wants.Goals as goal

pub returns-clause-stops : goal.returns-clause-stops
returns-clause-stops g c =
    subst (λ (k : Kept g.row.D.Denot). IfErr c.wants_for.result (StopsIn (has_made g.D.Disk.reads_as g.D.Disk.images g.D.Disk.moment g.D.Disk.images_since) c.args.rid.now k.caller c.wants_for.new.store.journal.end k (kept_of c.wants_for.new.store c.self.inside.caller) []))
    c.self.view_is
    (stops_by_memory g.D.Disk.reads_as g.D.Disk.images g.D.Disk.moment g.D.Disk.images_since g.D.Disk.loan g.D.Disk.faults c.args.rid.now c.self.inside.caller c.self.inside.store c.wants_for.new.store c.wants_for.result c.wants_for.ensures.fault c.self.invariant.stands
    c.wants_for.ensures.adds)
