use Rattle.commit_graph.proofs.NameSets.{keys_rise, keys_are}
use Rattle.commit_graph.proofs.reaching.names_of.Goals as goal

pub returns-clause-rising : goal.returns-clause-rising
returns-clause-rising c = keys_rise c.add_names.new.names _ c.in_ok-list.ensures.keys c.in_ok-list.ensures.ordered

pub returns-clause-names : goal.returns-clause-names
returns-clause-names c =
    keys_are c.new-names.result c.add_names.new.names _ c.args.pairs.now c.new-names.ensures.empty c.in_ok-list.ensures.keys c.in_ok-add_names.ensures.only c.in_ok-add_names.ensures.all
