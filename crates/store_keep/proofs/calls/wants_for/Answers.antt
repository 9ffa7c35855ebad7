use Rattle.std.proofs.Common.{[]}
use Rattle.store_keep.proofs.Adding.{adds_behind, adds_still}
use Rattle.store_keep.proofs.Calling.{wanted_behind}
use Rattle.store_keep.proofs.calls.wants_for.Goals as goal

pub returns-clause-adds : goal.returns-clause-adds
returns-clause-adds g c =
    adds_behind g.D.Disk.reads_as g.D.Disk.images g.D.Disk.moment g.D.Disk.images_since c.args.rid.now c.args.caller c.args.store.now c.claim_for.new.store c.wants.new.self [] c.claim_for.ensures.adds
    (adds_still g.D.Disk.reads_as g.D.Disk.images g.D.Disk.moment g.D.Disk.images_since c.args.rid.now c.args.caller c.claim_for.new.store c.wants.new.self c.wants.ensures.keyring g.met.D.Disk.only_now c.wants.ensures.journal c.claim_for.ensures.stands c.wants.ensures.stands)

pub returns-clause-wanted : goal.returns-clause-wanted
returns-clause-wanted g c =
    wanted_behind g.D.Disk.reads_as g.D.Disk.images g.D.Disk.moment g.D.Disk.images_since c.args.rid.now c.args.caller c.args.store.now c.claim_for.new.store c.args.offer.now c.args.scope.now c.args.stage c.wants.result c.requires.stands
    c.claim_for.ensures.adds c.claim_for.ensures.stands c.wants.ensures.wanted
