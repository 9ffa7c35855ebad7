use Rattle.std.proofs.Common.{sym}
use Rattle.rad_node.proofs.Running.{has_run}
use Rattle.rad_node.proofs.job.run_job.Goals as goal

pub returns-clause-run : goal.returns-clause-run
returns-clause-run g c = λ files opened.
    let reads = g.D.Disk.reads_as in
    let images = g.D.Disk.images in
    rw c.into_store.ensures.store (rw (sym c.new-keep.ensures.store) (has_run reads images g.D.Disk.moment g.D.Disk.images_since g.met.D.Disk.only_now files c.new-keep.result c.import_job-end.new.keep (g.I.Source.left c.args.input.now)
    (g.I.Source.left c.import_job-end.new.input) c.import_job-end.result c.new-keep.ensures.caller
    (rw c.new-keep.ensures.store c.requires.unclaimed) (rw c.new-keep.ensures.store opened) c.import_job-end.ensures.constants
    c.import_job-end.ensures.job))
