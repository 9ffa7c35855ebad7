use Rattle.std.proofs.Common.{◌≡◌, ◌∙◌, rules, sym, subst}
use Rattle.std.proofs.lemmas.Result.{err_from_is_err_and}
use Rattle.announcements.specs.Announcements.{kept_of, key_of}
use Rattle.announcements.specs.Held.{Stages, kept_in}
use Rattle.announcements.specs.Tables.{Keeps, Keeping}
use Rattle.announcements.specs.declared.heard.Heard.{Heard}
use Rattle.announcements.specs.declared.heard.Heard.TheVariants.{Raised}
use Rattle.object_store.proofs.Hearing.{heard_entered, heard_nothing, not_heard, not_raised, same_kept}
use Rattle.object_store.proofs.store.Store.hear.Goals as goal

pub returns-in_err-heard-clause-events : goal.returns-in_err-heard-clause-events
returns-in_err-heard-clause-events g c =
    let p = err_from_is_err_and c.from_residual.result c.from_residual.ensures.1 in
    rw (p.1, p.2) (λ core s.
    heard_nothing g.D.Disk.reads_as g.D.Disk.images g.D.Disk.moment g.D.Disk.images_since g.met.D.Disk.only_now c.args.self.now c.stage_heard.new.self core c.args.message.now c.args.now c.args.caller s
    (record {
      journal = c.in_err-heard.ensures.journal;
      keyring = c.in_err-heard.ensures.keyring;
      repositories = c.in_err-heard.ensures.repositories;
      entries = c.in_err-heard.ensures.entries;
      kept = c.in_err-heard.ensures.kept;
    }))

pub returns-then-not-matches-clause-events : goal.returns-then-not-matches-clause-events
returns-then-not-matches-clause-events g c = λ core s.
    not_raised g.D.Disk.reads_as g.D.Disk.images g.D.Disk.moment g.D.Disk.images_since g.met.D.Disk.only_now c.args.self.now c.stage_heard.new.self core c.args.message.now c.args.now c.args.caller s
    (record {
      journal = c.in_ok-heard.ensures.journal;
      keyring = c.in_ok-heard.ensures.keyring;
      repositories = c.in_ok-heard.ensures.repositories;
      entries = c.in_ok-heard.ensures.entries;
      kept = c.in_ok-heard.ensures.kept;
    }) c.in_ok-heard.heard (search rules) c.in_ok-heard.ensures.told

pub returns-in_err-entry-clause-events : goal.returns-in_err-entry-clause-events
returns-in_err-entry-clause-events g c =
    let p = err_from_is_err_and c.from_residual-in_err-entry.result c.from_residual-in_err-entry.ensures.1 in
    rw (p.1, p.2) (λ core s.
    heard_nothing g.D.Disk.reads_as g.D.Disk.images g.D.Disk.moment g.D.Disk.images_since g.met.D.Disk.only_now c.args.self.now c.stage_heard.new.self core c.args.message.now c.args.now c.args.caller s
    (record {
      journal = c.in_ok-heard.ensures.journal;
      keyring = c.in_ok-heard.ensures.keyring;
      repositories = c.in_ok-heard.ensures.repositories;
      entries = c.in_ok-heard.ensures.entries;
      kept = c.in_ok-heard.ensures.kept;
    }))

pub returns-in_err-parcel-clause-events : goal.returns-in_err-parcel-clause-events
returns-in_err-parcel-clause-events g c =
    let p = err_from_is_err_and c.from_residual-in_err-parcel.result c.from_residual-in_err-parcel.ensures.1 in
    rw (p.1, p.2) (λ core s.
    heard_nothing g.D.Disk.reads_as g.D.Disk.images g.D.Disk.moment g.D.Disk.images_since g.met.D.Disk.only_now c.args.self.now c.stage_heard.new.self core c.args.message.now c.args.now c.args.caller s
    (record {
      journal = c.in_ok-heard.ensures.journal;
      keyring = c.in_ok-heard.ensures.keyring;
      repositories = c.in_ok-heard.ensures.repositories;
      entries = c.in_ok-heard.ensures.entries;
      kept = c.in_ok-heard.ensures.kept;
    }))

pub returns-in_err-write_heard-clause-events : goal.returns-in_err-write_heard-clause-events
returns-in_err-write_heard-clause-events g c =
    let p = err_from_is_err_and c.from_residual-in_err-write_heard.result c.from_residual-in_err-write_heard.ensures.1 in
    let raised : c.in_ok-heard.heard ≡ Raised = search rules in
    rw (p.1, p.2) (λ core s.
    not_heard g.D.Disk.reads_as g.D.Disk.images g.D.Disk.moment g.D.Disk.images_since g.met.D.Disk.only_now c.args.self.now c.stage_heard.new.self core c.args.message.now c.args.now c.args.caller s
    (record {
      journal = c.in_ok-heard.ensures.journal;
      keyring = c.in_ok-heard.ensures.keyring;
      repositories = c.in_ok-heard.ensures.repositories;
      entries = c.in_ok-heard.ensures.entries;
      kept = c.in_ok-heard.ensures.kept;
    }) c.write_heard.new.self c.requires (sym c.in_ok-heard.ensures.told ∙ raised) c.in_err-write_heard.ensures.keyring c.in_err-write_heard.ensures.repositories
    c.in_ok-entry.entry c.in_ok-parcel.parcel c.in_ok-entry.ensures c.in_ok-parcel.ensures.text c.in_err-write_heard.field-0.0 c.in_err-write_heard.ensures.dropped c.in_err-write_heard.ensures.fault)

pub returns-clause-table : goal.returns-clause-table
returns-clause-table g c =
    let raised : c.in_ok-heard.heard ≡ Raised = search rules in
    subst (λ (table : Keeping). Keeps (key_of c.args.message.now) (kept_of c.args.message.now) table (kept_in c.write_heard.new.self.table))
    (same_kept (kept_in c.args.self.now.table) (kept_in c.stage_heard.new.self.table) c.in_ok-heard.ensures.kept)
    (c.in_ok-write_heard.ensures.kept (key_of c.args.message.now) (kept_of c.args.message.now)
    (subst (λ (told : Heard). Stages told c.args.message.now c.stage_heard.new.self.table) raised c.in_ok-heard.ensures.staged))

pub returns-clause-events : goal.returns-clause-events
returns-clause-events g c =
    let raised : c.in_ok-heard.heard ≡ Raised = search rules in
    λ core s.
    heard_entered g.D.Disk.reads_as g.D.Disk.images g.D.Disk.moment g.D.Disk.images_since g.met.D.Disk.only_now c.args.self.now c.stage_heard.new.self core c.args.message.now c.args.now c.args.caller s
    (record {
      journal = c.in_ok-heard.ensures.journal;
      keyring = c.in_ok-heard.ensures.keyring;
      repositories = c.in_ok-heard.ensures.repositories;
      entries = c.in_ok-heard.ensures.entries;
      kept = c.in_ok-heard.ensures.kept;
    }) c.write_heard.new.self c.requires (sym c.in_ok-heard.ensures.told ∙ raised) c.in_ok-write_heard.ensures.keyring c.in_ok-write_heard.ensures.repositories
    c.in_ok-entry.entry c.in_ok-parcel.parcel c.in_ok-entry.ensures c.in_ok-parcel.ensures.text
    (c.in_ok-write_heard.ensures.kept (key_of c.args.message.now) (kept_of c.args.message.now)
    (subst (λ (told : Heard). Stages told c.args.message.now c.stage_heard.new.self.table) raised c.in_ok-heard.ensures.staged)) c.in_ok-write_heard.ensures.wrote
