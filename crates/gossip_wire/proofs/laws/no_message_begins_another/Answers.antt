use Rattle.gossip_wire.proofs.OneMessage.{one_in_front, one_message, read_back}
use Rattle.gossip_wire.proofs.laws.no_message_begins_another.Goals as goal

pub returns-clause-front : goal.returns-clause-front
returns-clause-front c = one_in_front

pub returns-clause-one : goal.returns-clause-one
returns-clause-one c = one_message

pub returns-clause-back : goal.returns-clause-back
returns-clause-back c = read_back
