use Rattle.gossip_wire.proofs.Recordings.{fed_in_places, fed_is_read}
use Rattle.gossip_wire.proofs.laws.what_was_fed_is_read.Goals as goal

pub returns : goal.returns
returns c = record { whole = fed_is_read; places = fed_in_places }
