use Rattle.std.proofs.lemmas.Result.{err_from_is_err_and}
use Rattle.store_keep.proofs.Adding.{stops_for_memory}
use Rattle.store_keep.proofs.Calling.{put_unchanged, puts_behind, puts_by, puts_stand}
use Rattle.store_keep.proofs.calls.put_for.Goals as goal

pub returns-in_err-claim_for-clause-puts : goal.returns-in_err-claim_for-clause-puts
returns-in_err-claim_for-clause-puts g c =
    let p = err_from_is_err_and c.from_residual.result c.from_residual.ensures.1 in
    rw (p.1, p.2) (stops_for_memory g.D.Disk.reads_as g.D.Disk.images g.D.Disk.moment g.D.Disk.images_since c.args.rid.now c.args.caller c.args.store.now c.claim_for.new.store _ c.requires.stands c.claim_for.ensures.adds)

pub returns-clause-stands : goal.returns-clause-stands
returns-clause-stands g c =
    puts_stand g.D.Disk.reads_as g.D.Disk.images g.D.Disk.moment g.D.Disk.images_since c.args.rid.now c.args.caller c.args.batch.now c.claim_for.new.store c.put.new.self c.put.result c.claim_for.ensures.stands
    (puts_by g.D.Disk.reads_as g.D.Disk.images g.D.Disk.moment g.D.Disk.images_since c.args.rid.now c.args.caller c.args.batch.now c.claim_for.new.store c.put.new.self c.put.result c.put.ensures.keyring c.claim_for.ensures.stands c.put.ensures.events
    c.put.ensures.full c.put.ensures.only_full c.put.ensures.end c.put.ensures.end_stays)

pub returns-clause-unchanged : goal.returns-clause-unchanged
returns-clause-unchanged g c =
    put_unchanged g.D.Disk.reads_as g.D.Disk.images g.D.Disk.moment g.D.Disk.images_since c.args.rid.now c.args.caller c.args.batch.now c.claim_for.new.store c.put.new.self c.put.result c.claim_for.ensures.stands c.put.ensures.events

pub returns-clause-puts : goal.returns-clause-puts
returns-clause-puts g c =
    puts_behind g.D.Disk.reads_as g.D.Disk.images g.D.Disk.moment g.D.Disk.images_since c.args.rid.now c.args.caller c.args.batch.now c.args.store.now c.claim_for.new.store c.put.new.self c.put.result c.requires.stands c.claim_for.ensures.adds
    (puts_by g.D.Disk.reads_as g.D.Disk.images g.D.Disk.moment g.D.Disk.images_since c.args.rid.now c.args.caller c.args.batch.now c.claim_for.new.store c.put.new.self c.put.result c.put.ensures.keyring c.claim_for.ensures.stands c.put.ensures.events
    c.put.ensures.full c.put.ensures.only_full c.put.ensures.end c.put.ensures.end_stays)
