use Rattle.legal_history.proofs.GoodStandings.{legal_advances}
use Rattle.legal_history.proofs.laws.remotes_only_advance.Goals as goal

pub returns : goal.returns
returns c = legal_advances
