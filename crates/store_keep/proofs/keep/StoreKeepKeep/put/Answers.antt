use Rattle.std.proofs.Common.{subst}
use Rattle.std.specs.Prelude.{OnOk}
use Rattle.repo_slice.specs.Keeps.{HasSlice, put_told}
use Rattle.object_store.specs.Held.{held_at}
use Rattle.store_keep.specs.Kept.{Kept}
use Rattle.store_keep.proofs.Keeping.{put_held}
use Rattle.store_keep.proofs.keep.StoreKeepKeep.put.Goals as goal

pub returns-clause-slice : goal.returns-clause-slice
returns-clause-slice g c =
    subst (λ (k : Kept g.row.D.Denot). OnOk c.put_for.result (HasSlice (held_at k.store c.args.rid.now).state (put_told (held_at k.store c.args.rid.now).objects c.args.batch.now)
    (held_at c.put_for.new.store c.args.rid.now)))
    c.self.view_is
    (put_held g.D.Disk.reads_as g.D.Disk.images g.D.Disk.moment g.D.Disk.images_since g.D.Disk.loan g.D.Disk.faults c.args.rid.now c.self.inside.caller c.self.inside.store c.put_for.new.store c.args.batch.now c.put_for.result c.self.invariant.stands
    c.put_for.ensures.puts)
