use Rattle.fetch_wire.proofs.SectionsSpelled.{whole_is_spelled}
use Rattle.fetch_wire.proofs.laws.what_is_read_to_the_end_is_a_section.Goals as goal

pub returns : goal.returns
returns c = whole_is_spelled
