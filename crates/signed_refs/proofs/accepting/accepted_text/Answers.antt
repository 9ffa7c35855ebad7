use Rattle.signed_refs.proofs.accepting.accepted_text.Goals as goal

pub returns-in_default-clause-refused : goal.returns-in_default-clause-refused
returns-in_default-clause-refused c = λ h. (rw c.in_default.is at c.in_ok-refs.ensures.read) h.0 h.1
