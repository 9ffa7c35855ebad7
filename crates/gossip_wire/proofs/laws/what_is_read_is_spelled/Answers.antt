use Rattle.gossip_wire.proofs.FramesSpelled.{read_is_spelled}
use Rattle.gossip_wire.proofs.laws.what_is_read_is_spelled.Goals as goal

pub returns : goal.returns
returns c = read_is_spelled
