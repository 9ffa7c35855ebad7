use Rattle.rad_base.proofs.Conditions.{differ}
use Rattle.git_object.specs.Views.{tree_entry_of, last_key}
use Rattle.git_object.proofs.TreeTexts.{none_above}
use Rattle.git_object.proofs.tree.entry_behind.Goals as goal

pub returns-then-not-is_in_order-clause-none : goal.returns-then-not-is_in_order-clause-none
returns-then-not-is_in_order-clause-none c =
    let found = c.in_ok-entry.ensures.found in
    none_above (last_key c.args.before.now) c.args.bytes.now c.in_ok-entry.rest.now (tree_entry_of c.in_ok-entry.entry) found.0 found.1
    (λ below. differ c.is_in_order.result (c.is_in_order.ensures.1 below) c.if-not-is_in_order.true)
