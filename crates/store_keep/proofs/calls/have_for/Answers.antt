use Rattle.store_keep.proofs.Calling.{names_behind}
use Rattle.store_keep.proofs.calls.have_for.Goals as goal

pub returns-clause-names : goal.returns-clause-names
returns-clause-names g c =
    names_behind g.D.Disk.reads_as g.D.Disk.images g.D.Disk.moment g.D.Disk.images_since c.args.rid.now c.args.caller c.args.store.now c.claim_for.new.store c.have.result c.requires.stands c.claim_for.ensures.adds c.claim_for.ensures.stands c.have.ensures.names
