use Rattle.legal_history.proofs.ShortContents.{legal_short}
use Rattle.legal_history.proofs.laws.contents_are_short.Goals as goal

pub returns : goal.returns
returns c = legal_short
