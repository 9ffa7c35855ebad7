use Rattle.object_store.proofs.Opening.{opened_illegal, opened_ok, opens_unclaimed}
use Rattle.object_store.proofs.store.Store.open.Goals as goal

pub returns-in-Ok-read_all-clause-opened : goal.returns-in-Ok-read_all-clause-opened
returns-in-Ok-read_all-clause-opened g c =
    opened_ok g.D.Disk.reads_as g.D.Disk.images c.in-Ok.journal c.read_all.new.journal c.args.keyring _ c.in-Ok-read_all.read c.in-Ok.ensures.opened c.read_all.ensures.keeps c.in-Ok-read_all.ensures.reading

pub returns-in-Err-NotLegal-clause-opened : goal.returns-in-Err-NotLegal-clause-opened
returns-in-Err-NotLegal-clause-opened g c =
    rw c.fault-in-Err-NotLegal.ensures
    (opened_illegal g.D.Disk.reads_as g.D.Disk.images c.in-Ok.journal c.args.keyring _ c.in-Err-NotLegal.n c.in-Ok.ensures.opened
    (rw c.in-Err-NotLegal.field-0-is at c.in-Err-NotLegal.ensures.reading))

pub returns-in-Ok-read_all-clause-unclaimed : goal.returns-in-Ok-read_all-clause-unclaimed
returns-in-Ok-read_all-clause-unclaimed g c =
    opens_unclaimed g.D.Disk.reads_as g.D.Disk.images c.in-Ok.journal c.read_all.new.journal c.args.keyring c.in-Ok-read_all.read c.in-Ok-read_all.ensures.reading
