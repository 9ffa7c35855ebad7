use Rattle.keyring.proofs.LinesOf.{named_iff}
use Rattle.keyring.proofs.laws.named_lines.Goals as goal

pub returns : goal.returns
returns c = named_iff
