use Rattle.ref_journal.proofs.Records.{one_record}
use Rattle.ref_journal.proofs.laws.no_record_begins_another.Goals as goal

pub returns : goal.returns
returns c = one_record
