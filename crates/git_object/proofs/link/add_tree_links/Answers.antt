use Rattle.std.proofs.Common.{ap}
use Rattle.git_object.specs.Views.{tree_entries_of}
use Rattle.git_object.proofs.Linked.{at_error, front_same, tree_begun, tree_ended}
use Rattle.git_object.proofs.link.add_tree_links.Goals as goal

pub loop-entry-init : goal.loop-entry-init
loop-entry-init c = record {
  can = tt;
  finite = tt;
  added =
      tree_begun c.args.bytes.now (tree_entries_of c.in_ok-entries.entries) (tree_entries_of c.into_iter-entry-iterator.result) c.args.found.now.items
      c.in_ok-entries.ensures.tree (ap tree_entries_of c.into_iter-entry-iterator.ensures.into_iter_gives);
  kept = front_same c.args.found.now.items;
}

pub returns-in_err-entries-clause-kept : goal.returns-in_err-entries-clause-kept
returns-in_err-entries-clause-kept c = at_error c.from_residual.result (front_same c.args.found.now.items)

pub returns-clause-added : goal.returns-clause-added
returns-clause-added c =
    tree_ended c.args.bytes.now (tree_entries_of c.loop-entry.entry-iterator) c.args.found.now.items c.loop-entry.found.items c.loop-entry.invariant.added c.in-None.ensures.steps.0
