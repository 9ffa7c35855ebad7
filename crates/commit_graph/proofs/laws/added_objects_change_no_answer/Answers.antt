use Rattle.commit_graph.proofs.Growing.{chain_grows, closed_grows, history_grows, parents_grow, reached_grows}
use Rattle.commit_graph.proofs.laws.added_objects_change_no_answer.Goals as goal

pub returns-clause-reached : goal.returns-clause-reached
returns-clause-reached c = λ old new roots pair grows. reached_grows grows roots pair

pub returns-clause-closed : goal.returns-clause-closed
returns-clause-closed c = λ old new roots grows. closed_grows grows roots

pub returns-clause-history : goal.returns-clause-history
returns-clause-history c = λ old new a b grows. history_grows grows a b

pub returns-clause-parents : goal.returns-clause-parents
returns-clause-parents c = λ old new oid parents grows. parents_grow grows oid parents

pub returns-clause-chain : goal.returns-clause-chain
returns-clause-chain c = λ old new commits tip grows. chain_grows grows commits tip
