use Rattle.commit_graph.proofs.Growing.{closed_each}
use Rattle.commit_graph.proofs.laws.closed_where_each_is.Goals as goal

pub returns : goal.returns
returns c = closed_each
