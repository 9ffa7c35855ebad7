use Rattle.std.proofs.Common.{◌≡◌, ◌++◌, take}
use Rattle.std.specs.List.{flat_map}
use Rattle.gossip_wire.specs.Fields.{sized}
use Rattle.gossip_wire.proofs.writing.push_addresses.Given as goal

abbrev pub invariant-addresses : goal.invariant-addresses
invariant-addresses l = l.out.items ≡ l.initial.out.items ++ flat_map sized (take l.address-index l.addresses)
