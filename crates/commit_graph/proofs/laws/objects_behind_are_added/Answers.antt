use Rattle.commit_graph.proofs.Named.{grows_behind, puts_along}
use Rattle.commit_graph.proofs.laws.objects_behind_are_added.Goals as goal

pub returns-clause-grows : goal.returns-clause-grows
returns-clause-grows c = grows_behind

pub returns-clause-alike : goal.returns-clause-alike
returns-clause-alike c = puts_along
