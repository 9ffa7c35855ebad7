use Rattle.fetch_wire.proofs.SectionsSpelled.{section_reads}
use Rattle.fetch_wire.proofs.laws.sections_are_read_back.Goals as goal

pub returns : goal.returns
returns c = section_reads
