use Rattle.gossip_wire.proofs.FramesRead.{spelled_is_read}
use Rattle.gossip_wire.proofs.laws.what_is_spelled_is_read.Goals as goal

pub returns : goal.returns
returns c = spelled_is_read
