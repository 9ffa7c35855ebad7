use Rattle.signed_refs.proofs.Saying.{one_said, said_by_signed}
use Rattle.signed_refs.proofs.laws.one_said.Goals as goal

pub returns-clause-one : goal.returns-clause-one
returns-clause-one c = one_said

pub returns-clause-signed : goal.returns-clause-signed
returns-clause-signed c = said_by_signed
