use Rattle.gossip_wire.proofs.OneFrame.{one_frame, one_list}
use Rattle.gossip_wire.proofs.laws.no_frame_begins_another.Goals as goal

pub returns-clause-one : goal.returns-clause-one
returns-clause-one c = one_frame

pub returns-clause-list : goal.returns-clause-list
returns-clause-list c = one_list
