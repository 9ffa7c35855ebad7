use Rattle.identity_doc.proofs.OneIdentity.{one_identity, one_identity_chain}
use Rattle.identity_doc.proofs.laws.one_identity.Goals as goal

pub returns-clause-chain : goal.returns-clause-chain
returns-clause-chain c = one_identity_chain

pub returns-clause-document : goal.returns-clause-document
returns-clause-document c = one_identity
