use Rattle.rad_base.proofs.Texts.{HasItems}
use Rattle.gossip_wire.specs.Fields.{IsAddress, sized}
use Rattle.gossip_wire.proofs.lists.counted_addresses.Given as goal

abbrev pub invariant-addresses : goal.invariant-addresses
invariant-addresses l = HasItems IsAddress sized l.bytes l.counter l.addresses l.rest
