use Rattle.std.proofs.Common.{subst, sym, ◌∙◌}
use Rattle.repo_slice.specs.Keeps.{AreRisingNames}
use Rattle.slice_names.proofs.Told.{names_are, sorted_rise}
use Rattle.slice_names.proofs.names.names_of.Goals as goal

pub returns-clause-rising : goal.returns-clause-rising
returns-clause-rising c =
    subst AreRisingNames (sym (c.of.ensures ∙ c.in_ok-list.ensures.keys)) (sorted_rise _ c.in_ok-list.ensures.ordered)

pub returns-clause-names : goal.returns-clause-names
returns-clause-names c =
    names_are c.args.id c.in_ok-names.names c.add_commits.new.names c.args.remotes.now c.of.result (c.of.ensures ∙ c.in_ok-list.ensures.keys)
    c.in_ok-names.ensures c.in_ok-add_commits.ensures
