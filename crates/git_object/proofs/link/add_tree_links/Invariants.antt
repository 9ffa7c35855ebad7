use Rattle.std.proofs.Common.{◌≡◌, ◌++◌}
use Rattle.git_object.specs.Links.{KeepsFront, tree_links}
use Rattle.git_object.specs.Reading.{entries_in}
use Rattle.git_object.specs.Views.{tree_entries_of}
use Rattle.git_object.proofs.link.add_tree_links.Given as goal

abbrev pub invariant-loop-entry : goal.invariant-loop-entry
invariant-loop-entry l = record {
  can : goal.iterator-loop-entry.can_next l.entry-iterator;
  finite : goal.iterator-loop-entry.is_finite l.entry-iterator;
  added : l.fn.found.items ++ tree_links (entries_in l.fn.bytes) ≡ l.found.items ++ tree_links (tree_entries_of l.entry-iterator);
  kept : KeepsFront l.fn.found.items l.found.items;
}
