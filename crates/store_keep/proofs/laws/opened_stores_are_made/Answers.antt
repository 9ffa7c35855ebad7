use Rattle.store_keep.proofs.Imaging.{opened_made}
use Rattle.store_keep.proofs.laws.opened_stores_are_made.Goals as goal

pub returns : goal.returns
returns g c = opened_made g.D.Disk.reads_as g.D.Disk.images g.D.Disk.moment g.D.Disk.images_since g.met.D.Disk.only_now
