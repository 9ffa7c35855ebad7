use Rattle.std.proofs.Common.{arith}
use Rattle.gossip_wire.specs.Fields.{IsAddress}
use Rattle.gossip_wire.proofs.FieldTexts.{no_sized}
use Rattle.gossip_wire.proofs.fields.address_front.Goals as goal

pub returns-then-not-is_address-clause-none : goal.returns-then-not-is_address-clause-none
returns-then-not-is_address-clause-none c =
    no_sized IsAddress c.args.bytes.now c.in_ok-address.address.now c.in_ok-address.rest.now c.in_ok-address.ensures.found.1
    (λ is. let yes = c.is_address.ensures.no is in grind (arith, yes))
