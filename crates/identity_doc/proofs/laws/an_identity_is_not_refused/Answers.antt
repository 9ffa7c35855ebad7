use Rattle.identity_doc.proofs.NotRefused.{not_refused}
use Rattle.identity_doc.proofs.laws.an_identity_is_not_refused.Goals as goal

pub returns : goal.returns
returns c = not_refused
