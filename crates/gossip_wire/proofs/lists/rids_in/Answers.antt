use Rattle.std.proofs.Common.{◌≡◌, arith}
use Rattle.rad_base.proofs.Texts.{items_not_all, no_items}
use Rattle.gossip_wire.specs.Fields.{IsRid, rid_text}
use Rattle.gossip_wire.proofs.FieldTexts.{one_rid, rids_more, rids_not_rising}
use Rattle.gossip_wire.proofs.lists.rids_in.Goals as goal

pub returns-in_default-clause-none : goal.returns-in_default-clause-none
returns-in_default-clause-none c = λ all rising are.
    no_items IsRid rid_text one_rid c.args.bytes.now c.rids.counter c.args.count c.rids.rids c.rids.rest.now c.rids.invariant.items (omega arith) c.in_default.ensures.none all are

pub returns-then-not-is_above-clause-none : goal.returns-then-not-is_above-clause-none
returns-then-not-is_above-clause-none c =
    let found = c.in-Some.ensures.found in
    rids_not_rising c.args.bytes.now c.rids.counter c.args.count c.rids.rids c.rids.rest.now c.in-Some.more.now c.in-Some.rid c.rids.invariant (omega arith)
    found.0 found.1 (λ above. let yes = c.is_above.ensures.1 (rw c.as_slice.ensures above) in grind arith)

pub rids-preserved : goal.rids-preserved
rids-preserved c =
    let found = c.in-Some.ensures.found in
    rw c.in_ok-push.ensures.ok (rids_more c.args.bytes.now c.rids.counter c.rids.rids c.rids.rest.now c.in-Some.more.now c.in-Some.rid c.rids.invariant found.0
    (rw c.as_slice.ensures at (c.is_above.ensures.0 (grind arith))) found.1)

pub returns-else-is_empty-clause-none : goal.returns-else-is_empty-clause-none
returns-else-is_empty-clause-none c =
    let at_end : c.rids.counter ≡ c.args.count = omega arith in
    λ all rising are. items_not_all IsRid rid_text one_rid c.args.bytes.now c.args.count c.rids.rids c.rids.rest.now (rw at_end at c.rids.invariant.items)
    (λ none. let empty = rw none at c.is_empty.ensures in cc (empty, c.if-is_empty.false)) all are
