use Rattle.fetch_wire.proofs.RequestsRead.{requests_read}
use Rattle.fetch_wire.proofs.request_laws.requests_are_read_back.Goals as goal

pub returns : goal.returns
returns c = requests_read
