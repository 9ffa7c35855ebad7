use Rattle.std.proofs.Common.{◌≡◌, arith}
use Rattle.rad_base.proofs.Texts.{items_not_all, no_items}
use Rattle.gossip_wire.specs.Fields.{IsAddress, sized}
use Rattle.gossip_wire.proofs.FieldTexts.{one_address}
use Rattle.gossip_wire.proofs.lists.counted_addresses.Goals as goal

pub returns-in_default-clause-none : goal.returns-in_default-clause-none
returns-in_default-clause-none c =
    no_items IsAddress sized one_address c.args.bytes.now c.addresses.counter c.args.count c.addresses.addresses c.addresses.rest.now c.addresses.invariant (omega arith) c.in_default.ensures.none

pub returns-else-is_empty-clause-none : goal.returns-else-is_empty-clause-none
returns-else-is_empty-clause-none c =
    let at_end : c.addresses.counter ≡ c.args.count = omega arith in
    items_not_all IsAddress sized one_address c.args.bytes.now c.args.count c.addresses.addresses c.addresses.rest.now (rw at_end at c.addresses.invariant)
    (λ none. let empty = rw none at c.is_empty.ensures in cc (empty, c.if-is_empty.false))
