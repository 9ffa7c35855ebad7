use Rattle.keyring.proofs.Files.{one_broken_line, read_unbroken}
use Rattle.keyring.proofs.laws.one_broken_line.Goals as goal

pub returns-clause-one : goal.returns-clause-one
returns-clause-one c = one_broken_line

pub returns-clause-none : goal.returns-clause-none
returns-clause-none c = read_unbroken
