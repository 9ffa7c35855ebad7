use Rattle.keyring.specs.Contents.{accept_of}
use Rattle.keyring.proofs.LinesOf.{accepted_iff}
use Rattle.keyring.proofs.laws.accepted_lines.Goals as goal

pub returns : goal.returns
returns c = λ lines key message sig. accepted_iff lines (accept_of key message sig)
