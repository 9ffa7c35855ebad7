use Rattle.rad_base.specs.Faults.{Rose}
use Rattle.ref_journal.proofs.Walks.{only_reads_none}
use Rattle.rad_node.proofs.Openings.{has_opened, kept_by, opening_fault}
use Rattle.rad_node.proofs.opening.open_store.Goals as goal

pub returns-in-Ok-open-clause-opened : goal.returns-in-Ok-open-clause-opened
returns-in-Ok-open-clause-opened g c =
    has_opened g.D.Disk.reads_as g.D.Disk.images (g.S.Source.left c.args.keys.now) (g.D.Disk.reads_as c.args.disk) c.in-Ok.keyring c.in-Ok-open.store
    c.in-Ok.ensures.keyring c.in-Ok-open.ensures.stands c.in-Ok-open.ensures.opened

pub returns-in-Err-open-clause-refused : goal.returns-in-Err-open-clause-refused
returns-in-Err-open-clause-refused g c =
    rw c.status_at.ensures (opening_fault (g.S.Source.left c.args.keys.now) (g.D.Disk.reads_as c.args.disk) c.in-Ok.keyring
    (Rose (g.S.Source.faults c.args.keys.now) (g.S.Source.faults c.read_keyring.new.keys))
    (Rose (g.D.Disk.faults c.args.disk) (g.D.Disk.faults c.in-Err-open.fault.disk)) c.in-Err-open.fault.why c.in-Ok.ensures.keyring
    (λ e. c.in-Err-open.ensures.cause e) c.in-Err-open.ensures.opened)

pub returns-in-Err-clause-kept : goal.returns-in-Err-clause-kept
returns-in-Err-clause-kept g c =
    kept_by g.D.Disk.loan g.D.Disk.faults g.D.Disk.reads_as g.D.Disk.images g.D.Disk.moment g.D.Disk.images_since g.met.D.Disk.only_now c.args.disk c.args.disk
    (only_reads_none g.D.Disk.loan g.D.Disk.faults g.D.Disk.reads_as g.D.Disk.images g.D.Disk.moment g.D.Disk.images_since c.args.disk)

pub returns-in-Ok-open-clause-kept : goal.returns-in-Ok-open-clause-kept
returns-in-Ok-open-clause-kept g c =
    kept_by g.D.Disk.loan g.D.Disk.faults g.D.Disk.reads_as g.D.Disk.images g.D.Disk.moment g.D.Disk.images_since g.met.D.Disk.only_now c.args.disk c.in-Ok-open.store.journal.disk
    c.in-Ok-open.ensures.reads

pub returns-in-Err-open-clause-kept : goal.returns-in-Err-open-clause-kept
returns-in-Err-open-clause-kept g c =
    kept_by g.D.Disk.loan g.D.Disk.faults g.D.Disk.reads_as g.D.Disk.images g.D.Disk.moment g.D.Disk.images_since g.met.D.Disk.only_now c.args.disk c.in-Err-open.fault.disk
    c.in-Err-open.ensures.reads
