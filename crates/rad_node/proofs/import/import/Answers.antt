use Rattle.std.proofs.Common.{inl}
use Rattle.rad_node.proofs.Importing.{imported_else}
use Rattle.rad_node.proofs.Openings.{has_keyring, import_said, leaves_since}
use Rattle.rad_node.proofs.import.import.Goals as goal

pub returns-in-Ok-clause-said : goal.returns-in-Ok-clause-said
returns-in-Ok-clause-said g c =
    import_said _ c.import_bundle.result.0 (has_keyring (g.S.Source.left c.args.keys.now) c.in-Ok.store.keyring c.in-Ok.ensures.opened.keys) c.import_bundle.ensures.end

pub returns-in-Ok-clause-done : goal.returns-in-Ok-clause-done
returns-in-Ok-clause-done g c =
    inl (imported_else c.args.counted _ _ _ _ _ _ _ c.import_bundle.result.0
    (λ P. leaves_since g.D.Disk.loan g.D.Disk.faults g.D.Disk.reads_as g.D.Disk.images g.D.Disk.moment g.D.Disk.images_since g.met.D.Disk.only_now c.args.disk c.in-Ok.store.journal.disk
    c.in-Ok.ensures.reads c.import_bundle.result.1 P)
    (c.import_bundle.ensures.imported _ c.in-Ok.ensures.opened))
