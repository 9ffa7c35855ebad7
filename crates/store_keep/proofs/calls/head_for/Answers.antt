use Rattle.store_keep.proofs.Calling.{head_behind}
use Rattle.store_keep.proofs.calls.head_for.Goals as goal

pub returns-clause-head : goal.returns-clause-head
returns-clause-head g c =
    head_behind g.D.Disk.reads_as g.D.Disk.images g.D.Disk.moment g.D.Disk.images_since c.args.rid.now c.args.caller c.args.store.now c.claim_for.new.store c.head.result c.requires.stands c.claim_for.ensures.adds c.claim_for.ensures.stands c.head.ensures.head
