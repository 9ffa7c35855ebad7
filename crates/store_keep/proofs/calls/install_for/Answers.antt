use Rattle.std.proofs.Common.{[], inl}
use Rattle.std.proofs.lemmas.Result.{err_from_is_err_and}
use Rattle.store_keep.proofs.Adding.{stops_for_memory}
use Rattle.store_keep.proofs.Calling.{install_unchanged, installs_behind, installs_by, installs_stand}
use Rattle.store_keep.proofs.calls.install_for.Goals as goal

pub returns-in_err-claim_for-clause-installs : goal.returns-in_err-claim_for-clause-installs
returns-in_err-claim_for-clause-installs g c =
    let p = err_from_is_err_and c.from_residual.result c.from_residual.ensures.1 in
    rw (p.1, p.2) (inl (stops_for_memory g.D.Disk.reads_as g.D.Disk.images g.D.Disk.moment g.D.Disk.images_since c.args.rid.now c.args.caller c.args.store.now c.claim_for.new.store [] c.requires.stands c.claim_for.ensures.adds))

pub returns-clause-stands : goal.returns-clause-stands
returns-clause-stands g c =
    installs_stand g.D.Disk.reads_as g.D.Disk.images g.D.Disk.moment g.D.Disk.images_since c.args.rid.now c.args.caller c.args.offer.now c.args.scope.now c.claim_for.new.store c.install.new.self c.install.result c.claim_for.ensures.stands
    (installs_by g.D.Disk.reads_as g.D.Disk.images g.D.Disk.moment g.D.Disk.images_since c.args.rid.now c.args.caller c.args.offer.now c.args.scope.now c.claim_for.new.store c.install.new.self c.install.result c.install.ensures.keyring c.claim_for.ensures.stands
    c.install.ensures.events c.install.ensures.room c.install.ensures.end)

pub returns-clause-unchanged : goal.returns-clause-unchanged
returns-clause-unchanged g c =
    install_unchanged g.D.Disk.reads_as g.D.Disk.images g.D.Disk.moment g.D.Disk.images_since c.args.rid.now c.args.caller c.args.offer.now c.args.scope.now c.claim_for.new.store c.install.new.self c.install.result c.claim_for.ensures.stands c.install.ensures.events

pub returns-clause-installs : goal.returns-clause-installs
returns-clause-installs g c =
    installs_behind g.D.Disk.reads_as g.D.Disk.images g.D.Disk.moment g.D.Disk.images_since c.args.rid.now c.args.caller c.args.offer.now c.args.scope.now c.args.store.now c.claim_for.new.store c.install.new.self c.install.result c.requires.stands c.claim_for.ensures.adds
    (installs_by g.D.Disk.reads_as g.D.Disk.images g.D.Disk.moment g.D.Disk.images_since c.args.rid.now c.args.caller c.args.offer.now c.args.scope.now c.claim_for.new.store c.install.new.self c.install.result c.install.ensures.keyring c.claim_for.ensures.stands
    c.install.ensures.events c.install.ensures.room c.install.ensures.end)
