use Rattle.std.proofs.Common.{Err, ap, refl, subst, sym}
use Rattle.std.proofs.lemmas.Result.{err_from_is_err_and}
use Rattle.repo_entries.specs.declared.history.History.{History}
use Rattle.object_store.specs.Repositories.{IsIdle}
use Rattle.object_store.proofs.Claims.{claims_equal, claims_on, claims_same, claims_written}
use Rattle.object_store.proofs.Judging.{few_advance, few_at, installed, judged_nothing, judged_refused, not_installed, prepares}
use Rattle.object_store.proofs.Writing.{prepared_nothing}
use Rattle.object_store.proofs.store.Store.install.Goals as goal

pub judge-requires : goal.judge-requires
judge-requires g c = few_at c.args.self.now c.args.rid.now c.requires.stands

pub returns-in_err-judged-clause-events : goal.returns-in_err-judged-clause-events
returns-in_err-judged-clause-events g c =
    let p = err_from_is_err_and c.from_residual.result c.from_residual.ensures.1 in
    rw (p.1, p.2) (λ core s.
    judged_nothing g.D.Disk.reads_as g.D.Disk.images g.D.Disk.moment g.D.Disk.images_since g.met.D.Disk.only_now c.args.self.now c.judge.new.self core c.args.rid.now s c.in_err-judged.ensures.keyring c.in_err-judged.ensures.table c.in_err-judged.ensures.entries
    c.in_err-judged.ensures.journal c.in_err-judged.ensures.others c.in_err-judged.ensures.same)

pub returns-in-Err-clause-events : goal.returns-in-Err-clause-events
returns-in-Err-clause-events g c = λ core s.
    judged_refused g.D.Disk.reads_as g.D.Disk.images g.D.Disk.moment g.D.Disk.images_since g.met.D.Disk.only_now c.args.self.now c.judge.new.self c.args.rid.now c.args.offer.now c.args.scope.now c.in_ok-judged.field-0 c.args.caller
    c.requires.claimed
    (record {
      journal = c.in_ok-judged.ensures.journal;
      keyring = c.in_ok-judged.ensures.keyring;
      table = c.in_ok-judged.ensures.table;
      entries = c.in_ok-judged.ensures.entries;
      others = c.in_ok-judged.ensures.others;
      same = c.in_ok-judged.ensures.same;
      told = c.in_ok-judged.ensures.told;
    })
    (record { journal = c.judge.new.self.journal; keyring = c.judge.new.self.keyring; repositories = c.judge.new.self.repositories; table = c.judge.new.self.table; history = c.push.new.self })
    core c.in-Err.why c.in-Err.is s refl refl refl refl c.push.ensures

pub prepare_install-requires-clause-few : goal.prepare_install-requires-clause-few
prepare_install-requires-clause-few g c =
    rw c.in_ok-next.ensures.next.1
    (few_advance g.D.Disk.reads_as g.D.Disk.images g.D.Disk.moment g.D.Disk.images_since g.met.D.Disk.only_now c.args.self.now c.judge.new.self c.args.rid.now c.args.offer.now c.args.scope.now c.in-Ok.judged c.args.caller
    c.requires.claimed (record {
      journal = c.in_ok-judged.ensures.journal;
      keyring = c.in_ok-judged.ensures.keyring;
      table = c.in_ok-judged.ensures.table;
      entries = c.in_ok-judged.ensures.entries;
      others = c.in_ok-judged.ensures.others;
      same = c.in_ok-judged.ensures.same;
      told = rw c.in-Ok.is at c.in_ok-judged.ensures.told;
    }) c.next_of.ensures.rising c.requires.stands)

pub returns-in_err-next-clause-events : goal.returns-in_err-next-clause-events
returns-in_err-next-clause-events g c =
    let p = err_from_is_err_and c.from_residual-in_err-next.result c.from_residual-in_err-next.ensures.1 in
    rw (p.1, p.2) (λ core s.
    judged_nothing g.D.Disk.reads_as g.D.Disk.images g.D.Disk.moment g.D.Disk.images_since g.met.D.Disk.only_now c.args.self.now c.judge.new.self core c.args.rid.now s c.in_ok-judged.ensures.keyring c.in_ok-judged.ensures.table c.in_ok-judged.ensures.entries
    c.in_ok-judged.ensures.journal c.in_ok-judged.ensures.others c.in_ok-judged.ensures.same)

pub returns-in_err-entry-clause-events : goal.returns-in_err-entry-clause-events
returns-in_err-entry-clause-events g c =
    let p = err_from_is_err_and c.from_residual-in_err-entry.result c.from_residual-in_err-entry.ensures.1 in
    rw (p.1, p.2) (λ core s.
    prepared_nothing g.D.Disk.reads_as g.D.Disk.images g.D.Disk.moment g.D.Disk.images_since g.met.D.Disk.only_now c.args.self.now c.prepare_install.new.self core c.args.rid.now s
    (prepares g.D.Disk.reads_as g.D.Disk.images g.D.Disk.moment g.D.Disk.images_since g.met.D.Disk.only_now c.args.self.now c.judge.new.self c.args.rid.now c.args.offer.now c.args.scope.now c.in-Ok.judged c.args.caller
    c.requires.claimed (record {
      journal = c.in_ok-judged.ensures.journal;
      keyring = c.in_ok-judged.ensures.keyring;
      table = c.in_ok-judged.ensures.table;
      entries = c.in_ok-judged.ensures.entries;
      others = c.in_ok-judged.ensures.others;
      same = c.in_ok-judged.ensures.same;
      told = rw c.in-Ok.is at c.in_ok-judged.ensures.told;
    }) c.next_of.ensures.rising
    c.prepare_install.new.self (record {
      journal = c.in_err-entry.ensures.journal;
      keyring = c.in_err-entry.ensures.keyring;
      table = c.in_err-entry.ensures.table;
      entries = ap (λ (h : History). h.entries.items) c.in_err-entry.ensures.history;
      others = c.in_err-entry.ensures.others;
      same = c.in_err-entry.ensures.same;
    }))
    (λ idle. c.in_err-entry.ensures.idle (subst IsIdle (sym c.in_ok-judged.ensures.same) idle)))

pub returns-in_err-write-clause-events : goal.returns-in_err-write-clause-events
returns-in_err-write-clause-events g c =
    let p = err_from_is_err_and c.from_residual-in_err-write.result c.from_residual-in_err-write.ensures.1 in
    rw (p.1, p.2) (λ core s.
    not_installed g.D.Disk.reads_as g.D.Disk.images g.D.Disk.moment g.D.Disk.images_since g.met.D.Disk.only_now c.args.self.now c.judge.new.self c.args.rid.now c.args.offer.now c.args.scope.now c.in-Ok.judged c.args.caller
    c.requires.claimed (record {
      journal = c.in_ok-judged.ensures.journal;
      keyring = c.in_ok-judged.ensures.keyring;
      table = c.in_ok-judged.ensures.table;
      entries = c.in_ok-judged.ensures.entries;
      others = c.in_ok-judged.ensures.others;
      same = c.in_ok-judged.ensures.same;
      told = rw c.in-Ok.is at c.in_ok-judged.ensures.told;
    }) c.next_of.ensures.rising
    c.prepare_install.new.self (record {
      journal = c.in_ok-entry.ensures.journal;
      keyring = c.in_ok-entry.ensures.keyring;
      table = c.in_ok-entry.ensures.table;
      entries = ap (λ (h : History). h.entries.items) c.in_ok-entry.ensures.history;
      others = c.in_ok-entry.ensures.others;
      same = c.in_ok-entry.ensures.same;
    }) c.write.new.self core s c.in_err-write.ensures.others c.in_err-write.ensures.keyring c.in_err-write.ensures.table
    c.in_ok-entry.parcel c.in_ok-entry.entry (rw (c.in_ok-next.ensures.next.0, c.in_ok-next.ensures.next.1) at c.in_ok-entry.ensures.parcel)
    (rw (c.in_ok-next.ensures.next.0, c.in_ok-next.ensures.next.1) at c.in_ok-entry.ensures.entry)
    (rw (c.in_ok-next.ensures.next.0, c.in_ok-next.ensures.next.1) at c.in_ok-entry.ensures.staged) c.in_err-write.field-0.0
    (rw c.in_ok-next.ensures.next.1 at c.in_ok-entry.ensures.size) (λ full. c.in_err-write.ensures.full.0 (ap Err full)) c.in_err-write.ensures.fault)

pub returns-clause-events : goal.returns-clause-events
returns-clause-events g c = λ core s.
    installed g.D.Disk.reads_as g.D.Disk.images g.D.Disk.moment g.D.Disk.images_since g.met.D.Disk.only_now c.args.self.now c.judge.new.self c.args.rid.now c.args.offer.now c.args.scope.now c.in-Ok.judged c.args.caller
    c.requires.claimed (record {
      journal = c.in_ok-judged.ensures.journal;
      keyring = c.in_ok-judged.ensures.keyring;
      table = c.in_ok-judged.ensures.table;
      entries = c.in_ok-judged.ensures.entries;
      others = c.in_ok-judged.ensures.others;
      same = c.in_ok-judged.ensures.same;
      told = rw c.in-Ok.is at c.in_ok-judged.ensures.told;
    }) c.next_of.ensures.rising
    c.prepare_install.new.self (record {
      journal = c.in_ok-entry.ensures.journal;
      keyring = c.in_ok-entry.ensures.keyring;
      table = c.in_ok-entry.ensures.table;
      entries = ap (λ (h : History). h.entries.items) c.in_ok-entry.ensures.history;
      others = c.in_ok-entry.ensures.others;
      same = c.in_ok-entry.ensures.same;
    }) c.write.new.self core s c.in_ok-write.ensures.others c.in_ok-write.ensures.keyring c.in_ok-write.ensures.table
    c.in_ok-entry.parcel c.in_ok-entry.entry (rw (c.in_ok-next.ensures.next.0, c.in_ok-next.ensures.next.1) at c.in_ok-entry.ensures.parcel)
    (rw (c.in_ok-next.ensures.next.0, c.in_ok-next.ensures.next.1) at c.in_ok-entry.ensures.entry)
    (rw (c.in_ok-next.ensures.next.0, c.in_ok-next.ensures.next.1) at c.in_ok-entry.ensures.staged) c.in_ok-write.ensures.wrote

pub returns-in_err-judged-clause-claims : goal.returns-in_err-judged-clause-claims
returns-in_err-judged-clause-claims g c = claims_equal c.args.self.now c.judge.new.self c.args.rid.now c.in_err-judged.ensures.others c.in_err-judged.ensures.same

pub returns-in-Err-clause-claims : goal.returns-in-Err-clause-claims
returns-in-Err-clause-claims g c = claims_equal c.args.self.now _ c.args.rid.now c.in_ok-judged.ensures.others c.in_ok-judged.ensures.same

pub returns-in_err-next-clause-claims : goal.returns-in_err-next-clause-claims
returns-in_err-next-clause-claims g c = claims_equal c.args.self.now c.judge.new.self c.args.rid.now c.in_ok-judged.ensures.others c.in_ok-judged.ensures.same

pub returns-in_err-entry-clause-claims : goal.returns-in_err-entry-clause-claims
returns-in_err-entry-clause-claims g c =
    claims_on c.args.self.now c.judge.new.self c.prepare_install.new.self
    (claims_equal c.args.self.now c.judge.new.self c.args.rid.now c.in_ok-judged.ensures.others c.in_ok-judged.ensures.same)
    (claims_same c.judge.new.self c.prepare_install.new.self c.args.rid.now c.in_err-entry.ensures.others c.in_err-entry.ensures.same)

pub returns-in_err-write-clause-claims : goal.returns-in_err-write-clause-claims
returns-in_err-write-clause-claims g c =
    claims_on c.args.self.now c.judge.new.self c.write.new.self
    (claims_equal c.args.self.now c.judge.new.self c.args.rid.now c.in_ok-judged.ensures.others c.in_ok-judged.ensures.same)
    (claims_on c.judge.new.self c.prepare_install.new.self c.write.new.self
    (claims_same c.judge.new.self c.prepare_install.new.self c.args.rid.now c.in_ok-entry.ensures.others c.in_ok-entry.ensures.same)
    (claims_written g.D.Disk.reads_as g.D.Disk.images g.D.Disk.moment g.D.Disk.images_since c.prepare_install.new.self c.write.new.self c.args.rid.now c.args.caller c.in_ok-entry.entry c.in_ok-entry.parcel c.write.result
    c.write.ensures.others c.write.ensures.wrote c.write.ensures.fault))

pub returns-clause-claims : goal.returns-clause-claims
returns-clause-claims g c =
    claims_on c.args.self.now c.judge.new.self c.write.new.self
    (claims_equal c.args.self.now c.judge.new.self c.args.rid.now c.in_ok-judged.ensures.others c.in_ok-judged.ensures.same)
    (claims_on c.judge.new.self c.prepare_install.new.self c.write.new.self
    (claims_same c.judge.new.self c.prepare_install.new.self c.args.rid.now c.in_ok-entry.ensures.others c.in_ok-entry.ensures.same)
    (claims_written g.D.Disk.reads_as g.D.Disk.images g.D.Disk.moment g.D.Disk.images_since c.prepare_install.new.self c.write.new.self c.args.rid.now c.args.caller c.in_ok-entry.entry c.in_ok-entry.parcel c.write.result
    c.write.ensures.others c.write.ensures.wrote c.write.ensures.fault))
