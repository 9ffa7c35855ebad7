use Rattle.commit_graph.proofs.Growing.{history_was, reached_was}
use Rattle.commit_graph.proofs.laws.added_objects_are_not_reached.Goals as goal

pub returns-clause-reached : goal.returns-clause-reached
returns-clause-reached c = λ old new roots pair grows closed. reached_was grows roots closed pair

pub returns-clause-history : goal.returns-clause-history
returns-clause-history c = λ old new a b grows closed. history_was grows a b closed
