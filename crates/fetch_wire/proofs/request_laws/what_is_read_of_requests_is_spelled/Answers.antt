use Rattle.fetch_wire.proofs.RequestsSpelled.{requests_spelled}
use Rattle.fetch_wire.proofs.request_laws.what_is_read_of_requests_is_spelled.Goals as goal

pub returns : goal.returns
returns c = requests_spelled
