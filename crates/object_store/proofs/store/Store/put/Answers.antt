use Rattle.std.proofs.lemmas.Result.{err_from_is_err_and}
use Rattle.object_store.proofs.Claims.{claims_on, claims_same, claims_written}
use Rattle.object_store.proofs.Putting.{put_by}
use Rattle.object_store.proofs.Writing.{prepared_nothing}
use Rattle.object_store.proofs.store.Store.put.Goals as goal

pub returns-in_err-entry-clause-events : goal.returns-in_err-entry-clause-events
returns-in_err-entry-clause-events g c =
    let p = err_from_is_err_and c.from_residual.result c.from_residual.ensures.1 in
    rw (p.1, p.2) (λ core s.
    prepared_nothing g.D.Disk.reads_as g.D.Disk.images g.D.Disk.moment g.D.Disk.images_since g.met.D.Disk.only_now c.args.self.now c.prepare_put.new.self core c.args.rid.now s
    (record {
      journal = c.in_err-entry.ensures.journal;
      keyring = c.in_err-entry.ensures.keyring;
      table = c.in_err-entry.ensures.table;
      entries = c.in_err-entry.ensures.entries;
      others = c.in_err-entry.ensures.others;
      same = c.in_err-entry.ensures.same;
    }) c.in_err-entry.ensures.idle)

pub returns-clause-events : goal.returns-clause-events
returns-clause-events g c = λ core s.
    put_by g.D.Disk.reads_as g.D.Disk.images g.D.Disk.moment g.D.Disk.images_since g.met.D.Disk.only_now c.args.self.now c.prepare_put.new.self c.write.new.self core c.args.rid.now s
    (record {
      journal = c.in_ok-entry.ensures.journal;
      keyring = c.in_ok-entry.ensures.keyring;
      table = c.in_ok-entry.ensures.table;
      entries = c.in_ok-entry.ensures.entries;
      others = c.in_ok-entry.ensures.others;
      same = c.in_ok-entry.ensures.same;
    }) c.write.ensures.others c.write.ensures.keyring c.write.ensures.table c.args.batch.now c.args.caller c.in_ok-entry.parcel c.in_ok-entry.entry c.requires.claimed c.requires.batch
    c.in_ok-entry.ensures.staged c.in_ok-entry.ensures.parcel c.in_ok-entry.ensures.entry c.write.result c.write.ensures.wrote c.write.ensures.fault

pub returns-in_err-entry-clause-claims : goal.returns-in_err-entry-clause-claims
returns-in_err-entry-clause-claims g c = claims_same c.args.self.now c.prepare_put.new.self c.args.rid.now c.in_err-entry.ensures.others c.in_err-entry.ensures.same

pub returns-clause-claims : goal.returns-clause-claims
returns-clause-claims g c =
    claims_on c.args.self.now c.prepare_put.new.self c.write.new.self
    (claims_same c.args.self.now c.prepare_put.new.self c.args.rid.now c.in_ok-entry.ensures.others c.in_ok-entry.ensures.same)
    (claims_written g.D.Disk.reads_as g.D.Disk.images g.D.Disk.moment g.D.Disk.images_since c.prepare_put.new.self c.write.new.self c.args.rid.now c.args.caller c.in_ok-entry.entry c.in_ok-entry.parcel c.write.result
    c.write.ensures.others c.write.ensures.wrote c.write.ensures.fault)
