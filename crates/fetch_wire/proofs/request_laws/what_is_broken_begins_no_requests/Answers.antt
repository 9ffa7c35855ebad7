use Rattle.fetch_wire.proofs.RequestsRead.{broken_begins_none}
use Rattle.fetch_wire.proofs.request_laws.what_is_broken_begins_no_requests.Goals as goal

pub returns : goal.returns
returns c = broken_begins_none
