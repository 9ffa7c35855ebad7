use Rattle.commit_graph.proofs.OneAnswer.{one_chain, one_closure}
use Rattle.commit_graph.proofs.laws.one_answer.Goals as goal

pub returns-clause-closure : goal.returns-clause-closure
returns-clause-closure c = one_closure

pub returns-clause-chain : goal.returns-clause-chain
returns-clause-chain c = λ objects tip a b. one_chain objects a b tip
