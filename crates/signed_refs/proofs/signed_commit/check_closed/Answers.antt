use Rattle.signed_refs.proofs.signed_commit.check_closed.Goals as goal

pub returns-in-BadObject-clause-refused : goal.returns-in-BadObject-clause-refused
returns-in-BadObject-clause-refused g c = λ m e keyring rid node. rw c.in-BadObject.is at (c.in_ok-closure.ensures.told m e)
