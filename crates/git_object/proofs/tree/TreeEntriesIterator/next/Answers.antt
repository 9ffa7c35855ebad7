use Rattle.std.proofs.Common.{length, ap, rules}
use Rattle.git_object.specs.Views.{tree_entries_of, tree_entry_of}
use Rattle.git_object.proofs.EntryTexts.{entries_first, entries_none}
use Rattle.git_object.proofs.Steps.{none_left_by}
use Rattle.git_object.proofs.tree.TreeEntriesIterator.next.Goals as goal

pub returns-in_err-entry-clause-steps : goal.returns-in_err-entry-clause-steps
returns-in_err-entry-clause-steps c =
    none_left_by tree_entry_of tree_entries_of c.args.self.now c.from_residual.result c.from_residual.ensures
    (entries_none c.args.self.now.rest.now c.in_err-entry.ensures.none)

pub returns-clause-steps : goal.returns-clause-steps
returns-clause-steps c =
    let found = c.in_ok-entry.ensures.found in
    entries_first c.args.self.now.rest.now c.in_ok-entry.rest.now (tree_entry_of c.in_ok-entry.entry) found.0 found.1

pub returns-clause-goes : goal.returns-clause-goes
returns-clause-goes c =
    let shorter = ap length (returns-clause-steps c) in
    search rules
