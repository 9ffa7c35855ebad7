use Rattle.std.proofs.Common.{subst}
use Rattle.std.specs.Prelude.{IfErr}
use Rattle.repo_slice.specs.Keeps.{IsVerdictOn, LeavesOthers, StopsAtVerdict}
use Rattle.object_store.specs.Held.{held_at}
use Rattle.store_keep.specs.Kept.{Kept, constants_of}
use Rattle.store_keep.proofs.Keeping.{has_held, has_made, install_leaves, install_stops, kept_of}
use Rattle.store_keep.proofs.keep.StoreKeepKeep.install.Goals as goal

pub returns-clause-leaves : goal.returns-clause-leaves
returns-clause-leaves g c =
    subst (λ (k : Kept g.row.D.Denot). LeavesOthers constants_of (λ (k : Kept g.row.D.Denot). g.D.Disk.loan k.store.journal.disk) (λ (k : Kept g.row.D.Denot). g.D.Disk.faults k.store.journal.disk) has_held c.args.rid.now k
    (kept_of c.install_for.new.store c.self.inside.caller))
    c.self.view_is
    (install_leaves g.D.Disk.reads_as g.D.Disk.images g.D.Disk.moment g.D.Disk.images_since g.D.Disk.loan g.D.Disk.faults c.args.rid.now c.self.inside.caller c.self.inside.store c.install_for.new.store c.args.offer.now c.args.scope.now
    c.install_for.result c.install_for.ensures.installs c.install_for.ensures.loan c.install_for.ensures.later)

pub returns-clause-stops : goal.returns-clause-stops
returns-clause-stops g c =
    subst (λ (k : Kept g.row.D.Denot). IfErr c.install_for.result (StopsAtVerdict (has_made g.D.Disk.reads_as g.D.Disk.images g.D.Disk.moment g.D.Disk.images_since) c.args.rid.now k.caller c.install_for.new.store.journal.end k
    (kept_of c.install_for.new.store c.self.inside.caller) (IsVerdictOn (constants_of k) (held_at k.store c.args.rid.now) c.args.offer.now c.args.scope.now)))
    c.self.view_is
    (install_stops g.D.Disk.reads_as g.D.Disk.images g.D.Disk.moment g.D.Disk.images_since g.D.Disk.loan g.D.Disk.faults c.args.rid.now c.self.inside.caller c.self.inside.store c.install_for.new.store c.args.offer.now c.args.scope.now
    c.install_for.result c.install_for.ensures.installs)
