use Rattle.canonical_head.proofs.OneHead.{one_head}
use Rattle.canonical_head.proofs.SomeHead.{some_head}
use Rattle.canonical_head.proofs.laws.one_head.Goals as goal

pub returns-clause-one : goal.returns-clause-one
returns-clause-one c = one_head

pub returns-clause-some : goal.returns-clause-some
returns-clause-some c = some_head
