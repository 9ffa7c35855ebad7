use Rattle.signed_refs.proofs.Compared.{read_back}
use Rattle.signed_refs.proofs.laws.refs_are_read_back.Goals as goal

pub returns-clause-back : goal.returns-clause-back
returns-clause-back c = λ lines bytes answer s r not. read_back lines bytes answer s r not
