use Rattle.std.proofs.Common.{length, ap, arith}
use Rattle.std.specs.List.{flat_map}
use Rattle.gossip_wire.proofs.AnnouncedTexts.{are_rids, inventory_counted, no_time}
use Rattle.gossip_wire.proofs.MessageTexts.{no_inventory}
use Rattle.gossip_wire.specs.Fields.{rid_text}
use Rattle.gossip_wire.proofs.reading.read_rids.Goals as goal

pub returns-in_default-clause-none : goal.returns-in_default-clause-none
returns-in_default-clause-none c =
    no_inventory c.args.node c.args.sig c.args.bytes.now c.requires
    (λ rids time is e. omega (arith, c.in_default.ensures.none, ap length e))

pub returns-then-count-gt-MOST_RIDS-clause-none : goal.returns-then-count-gt-MOST_RIDS-clause-none
returns-then-count-gt-MOST_RIDS-clause-none c =
    let n = c.in-Some.ensures.found in
    no_inventory c.args.node c.args.sig c.args.bytes.now c.requires
    (λ rids time is e.
    let counted = inventory_counted c.in-Some.count c.args.bytes.now c.in-Some.rest.now n.0 n.1 rids time is e in
    omega (arith, counted.count, is.few))

pub returns-in_default-number_behind-clause-none : goal.returns-in_default-number_behind-clause-none
returns-in_default-number_behind-clause-none c =
    let n = c.in-Some.ensures.found in
    no_inventory c.args.node c.args.sig c.args.bytes.now c.requires
    (λ rids time is e.
    no_time c.in-Some.count (length rids) time c.in-Some.rest.now (flat_map rid_text rids) c.in_default-number_behind.ensures.none
    (inventory_counted c.in-Some.count c.args.bytes.now c.in-Some.rest.now n.0 n.1 rids time is e))

pub returns-in-None-clause-none : goal.returns-in-None-clause-none
returns-in-None-clause-none c =
    let n = c.in-Some.ensures.found in
    let b = c.in-Some-number_behind.ensures.found in
    no_inventory c.args.node c.args.sig c.args.bytes.now c.requires
    (λ rids time is e. (rw c.in-None.is at c.in_ok-rids_in.ensures.none) rids is.rising
    (are_rids c.in-Some.count c.in-Some-number_behind.time c.args.bytes.now c.in-Some.rest.now c.in-Some-number_behind.names.now n.0 n.1 b.1 rids time is e))
