use Rattle.identity_doc.proofs.OneFault.{one_fault}
use Rattle.identity_doc.proofs.laws.one_id_fault.Goals as goal

pub returns : goal.returns
returns c = λ objects keyring rid tip a b h k p q. one_fault objects keyring rid tip a b h k p q
