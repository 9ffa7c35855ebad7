use Rattle.identity_doc.proofs.Bounds.{bounded}
use Rattle.identity_doc.proofs.laws.reachable_threshold.Goals as goal

pub returns-clause-delegates : goal.returns-clause-delegates
returns-clause-delegates c = λ value keyring doc d. let b = bounded value keyring _ d.passes in (b.differ, b.few)

pub returns-clause-threshold : goal.returns-clause-threshold
returns-clause-threshold c = λ value keyring doc d. let b = bounded value keyring _ d.passes in (b.low, b.high)
