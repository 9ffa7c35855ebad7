use Rattle.fetch_serve.proofs.haves.embeds.Goals as goal

pub returns-in-None-clause-told : goal.returns-in-None-clause-told
returns-in-None-clause-told g c = λ m e. (λ h. cc h, λ h. absurd ((rw c.in-None.is at (c.in_ok-commit_entry.ensures.told m e)) h.0 h.1))
