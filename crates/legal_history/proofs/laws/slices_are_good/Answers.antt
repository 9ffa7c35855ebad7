use Rattle.legal_history.proofs.GoodStandings.{legal_is_good}
use Rattle.legal_history.proofs.laws.slices_are_good.Goals as goal

pub returns : goal.returns
returns c = λ keyring rid items legal. (legal_is_good keyring rid items legal).good
