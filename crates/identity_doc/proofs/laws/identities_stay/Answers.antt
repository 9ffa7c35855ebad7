use Rattle.identity_doc.proofs.Growing.{chain_grows, document_grows, identity_grows}
use Rattle.identity_doc.proofs.laws.identities_stay.Goals as goal

pub returns-clause-document : goal.returns-clause-document
returns-clause-document c = λ old new keyring commit doc grows h. document_grows grows keyring commit doc h

pub returns-clause-chain : goal.returns-clause-chain
returns-clause-chain c = λ old new keyring rid tip commits grows h. chain_grows grows keyring rid tip commits h

pub returns-clause-identity : goal.returns-clause-identity
returns-clause-identity c = λ old new keyring rid tip doc grows h. identity_grows grows keyring rid tip doc h
