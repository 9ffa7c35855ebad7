use Rattle.gossip_wire.proofs.FieldTexts.{HasRids}
use Rattle.gossip_wire.proofs.lists.rids_in.Given as goal

abbrev pub invariant-rids : goal.invariant-rids
invariant-rids l = HasRids l.bytes l.counter l.rids l.rest
