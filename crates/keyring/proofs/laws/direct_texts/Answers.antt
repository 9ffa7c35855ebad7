use Rattle.keyring.proofs.LinesOf.{direct_names}
use Rattle.keyring.proofs.laws.direct_texts.Goals as goal

pub returns : goal.returns
returns c = direct_names
