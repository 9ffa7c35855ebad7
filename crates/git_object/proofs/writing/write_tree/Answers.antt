use Rattle.std.proofs.Common.{◌≡◌, get_or, map, arith, rules}
use Rattle.std.proofs.lemmas.List.{length-map}
use Rattle.rad_base.proofs.Conditions.{differ}
use Rattle.git_object.specs.Views.{entry_named, tree_entry_of, last_key}
use Rattle.git_object.proofs.Written.{first_bad, named_at, written_more}
use Rattle.git_object.proofs.writing.write_tree.Goals as goal

pub returns-then-not-is_name-clause-fault : goal.returns-then-not-is_name-clause-fault
returns-then-not-is_name-clause-fault c =
    let x = c.index-entries-i.result in
    let at : get_or c.args.entries.now c.loop-i.i x ≡ x = search rules in
    first_bad (map entry_named c.args.entries.now) c.loop-i.i c.loop-i.bytes.items (last_key c.loop-i.before) (tree_entry_of c.as_entry-entry.result)
    c.loop-i.invariant (omega (arith, length-map c.args.entries.now entry_named, c.loop-i-test.true))
    (named_at c.args.entries.now c.loop-i.i x _ c.loop-i-test.true at c.as_entry-entry.ensures)
    (λ name below. differ c.is_name.result (c.is_name.ensures.1 name) c.if-not-is_name.true)

pub returns-then-not-is_in_order-clause-fault : goal.returns-then-not-is_in_order-clause-fault
returns-then-not-is_in_order-clause-fault c =
    let x = c.index-entries-i.result in
    let at : get_or c.args.entries.now c.loop-i.i x ≡ x = search rules in
    first_bad (map entry_named c.args.entries.now) c.loop-i.i c.loop-i.bytes.items (last_key c.loop-i.before) (tree_entry_of c.as_entry-entry.result)
    c.loop-i.invariant (omega (arith, length-map c.args.entries.now entry_named, c.loop-i-test.true))
    (named_at c.args.entries.now c.loop-i.i x _ c.loop-i-test.true at c.as_entry-entry.ensures)
    (λ name below. differ c.is_in_order.result (c.is_in_order.ensures.1 below) c.if-not-is_in_order.true)

pub loop-i-preserved : goal.loop-i-preserved
loop-i-preserved c =
    let x = c.index-entries-i.result in
    let at : get_or c.args.entries.now c.loop-i.i x ≡ x = search rules in
    written_more (map entry_named c.args.entries.now) c.loop-i.i c.loop-i.bytes.items c.push_entry.new.bytes.items (last_key c.loop-i.before)
    (tree_entry_of c.as_entry-entry.result) c.loop-i.invariant (omega (arith, length-map c.args.entries.now entry_named, c.loop-i-test.true))
    (named_at c.args.entries.now c.loop-i.i x _ c.loop-i-test.true at c.as_entry-entry.ensures)
    (record { name = c.is_name.ensures.0 c.if-not-is_name.false; oid = c.in_ok-push_entry.ensures.size })
    (c.is_in_order.ensures.0 c.if-not-is_in_order.false) c.in_ok-push_entry.ensures.text
