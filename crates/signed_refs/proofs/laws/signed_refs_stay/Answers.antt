use Rattle.signed_refs.proofs.Growing.{blob_grows, says_grows, signed_grows}
use Rattle.signed_refs.proofs.laws.signed_refs_stay.Goals as goal

pub returns-clause-blob : goal.returns-clause-blob
returns-clause-blob c = λ old new commit name bytes grows h. blob_grows grows commit name bytes h

pub returns-clause-said : goal.returns-clause-said
returns-clause-said c = λ old new commit refs grows h. says_grows grows commit refs h

pub returns-clause-signed : goal.returns-clause-signed
returns-clause-signed c = λ old new keyring rid node commit refs grows h. signed_grows grows keyring rid node commit refs h
