use Rattle.fetch_serve.proofs.reply.answer.Goals as goal

pub returns-in-Some-clause-keeps : goal.returns-in-Some-clause-keeps
returns-in-Some-clause-keeps g c = rw c.in-Some.is c.answer_over.ensures.keeps
