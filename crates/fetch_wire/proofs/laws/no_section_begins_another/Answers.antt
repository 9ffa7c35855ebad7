use Rattle.fetch_wire.proofs.SectionsSpelled.{one_section}
use Rattle.fetch_wire.proofs.laws.no_section_begins_another.Goals as goal

pub returns : goal.returns
returns c = one_section
