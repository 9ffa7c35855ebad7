use Rattle.fetch_wire.proofs.RequestsRead.{one_request}
use Rattle.fetch_wire.proofs.request_laws.no_request_begins_another.Goals as goal

pub returns : goal.returns
returns c = one_request
