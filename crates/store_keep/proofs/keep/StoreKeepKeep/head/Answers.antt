use Rattle.std.proofs.Common.{[], subst}
use Rattle.std.specs.Prelude.{IfErr}
use Rattle.repo_slice.specs.Keeps.{LeavesOthers, StopsIn}
use Rattle.store_keep.specs.Kept.{Kept, constants_of}
use Rattle.store_keep.proofs.Keeping.{has_held, has_made, kept_of, leaves_still, stops_by_memory}
use Rattle.store_keep.proofs.keep.StoreKeepKeep.head.Goals as goal

pub returns-clause-leaves : goal.returns-clause-leaves
returns-clause-leaves g c =
    subst (λ (k : Kept g.row.D.Denot). LeavesOthers constants_of (λ (k : Kept g.row.D.Denot). g.D.Disk.loan k.store.journal.disk) (λ (k : Kept g.row.D.Denot). g.D.Disk.faults k.store.journal.disk) has_held c.args.rid.now k
    (kept_of c.head_for.new.store c.self.inside.caller))
    c.self.view_is
    (leaves_still g.D.Disk.reads_as g.D.Disk.images g.D.Disk.moment g.D.Disk.images_since g.D.Disk.loan g.D.Disk.faults c.args.rid.now c.self.inside.caller c.self.inside.store c.head_for.new.store c.head_for.ensures.adds c.head_for.ensures.journal)

pub returns-clause-stops : goal.returns-clause-stops
returns-clause-stops g c =
    subst (λ (k : Kept g.row.D.Denot). IfErr c.head_for.result (StopsIn (has_made g.D.Disk.reads_as g.D.Disk.images g.D.Disk.moment g.D.Disk.images_since) c.args.rid.now k.caller c.head_for.new.store.journal.end k (kept_of c.head_for.new.store c.self.inside.caller) []))
    c.self.view_is
    (stops_by_memory g.D.Disk.reads_as g.D.Disk.images g.D.Disk.moment g.D.Disk.images_since g.D.Disk.loan g.D.Disk.faults c.args.rid.now c.self.inside.caller c.self.inside.store c.head_for.new.store c.head_for.result c.head_for.ensures.fault c.self.invariant.stands
    c.head_for.ensures.adds)
