use Rattle.fetch_wire.proofs.SectionsSpelled.{read_is_spelled}
use Rattle.fetch_wire.proofs.laws.what_is_read_is_spelled.Goals as goal

pub returns : goal.returns
returns c = read_is_spelled
