use Rattle.identity_doc.proofs.identity.commits_to.Goals as goal

pub returns-in-BadObject-clause-refused : goal.returns-in-BadObject-clause-refused
returns-in-BadObject-clause-refused g c = λ m e keyring rid. rw c.in-BadObject.is at (c.in_ok-oid.ensures.told m e)
