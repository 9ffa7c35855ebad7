use Rattle.ref_journal.proofs.Lasting.{written_durably}
use Rattle.ref_journal.proofs.record.write_durably.Goals as goal

pub returns-clause-written : goal.returns-clause-written
returns-clause-written g c =
    written_durably c.args.place c.args.bytes.now _ _ _ _ c.in_ok-write_at.ensures.written c.in_ok-sync.ensures.same c.in_ok-sync.ensures.durable
