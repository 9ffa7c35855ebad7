use Rattle.fetch_wire.proofs.SectionsSpelled.{refusal_reads}
use Rattle.fetch_wire.proofs.laws.refusals_are_read_back.Goals as goal

pub returns : goal.returns
returns c = refusal_reads
