use Rattle.identity_doc.proofs.DelegateKeys.{lacking_iff, read_iff, repeated_iff}
use Rattle.identity_doc.proofs.laws.delegate_keys.Goals as goal

pub returns-clause-read : goal.returns-clause-read
returns-clause-read c = read_iff

pub returns-clause-lacking : goal.returns-clause-lacking
returns-clause-lacking c = lacking_iff

pub returns-clause-repeated : goal.returns-clause-repeated
returns-clause-repeated c = repeated_iff
