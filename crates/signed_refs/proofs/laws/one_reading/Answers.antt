use Rattle.signed_refs.proofs.Compared.{one_reading}
use Rattle.signed_refs.proofs.laws.one_reading.Goals as goal

pub returns : goal.returns
returns c = λ bytes a b p q na nb. one_reading bytes a b p q na nb
