use Rattle.repo_slice.proofs.rounds.begin.Goals as goal

pub returns-in-Err-Outcome-clause-told : goal.returns-in-Err-Outcome-clause-told
returns-in-Err-Outcome-clause-told g c = λ m e.
    let halt = c.in-Err-Outcome.ensures.refused m e in
    let none = c.in-Err-Outcome.ensures.none m e in
    (rw c.in-Err-Outcome.field-0-is at halt, rw c.in-Err-Outcome.field-0-is at none)
