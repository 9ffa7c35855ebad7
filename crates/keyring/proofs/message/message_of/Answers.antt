use Rattle.rad_base.proofs.Conditions.{differ}
use Rattle.keyring.proofs.Messages.{decoded, spelling}
use Rattle.keyring.proofs.message.message_of.Goals as goal

pub returns-then-not-is_spelling-clause-none : goal.returns-then-not-is_spelling-clause-none
returns-then-not-is_spelling-clause-none c = λ message is e.
    differ c.is_spelling.result (c.is_spelling.ensures.1 (spelling c.args.digits.now message is e)) c.if-not-is_spelling.true

pub returns-in-Ok-clause-found : goal.returns-in-Ok-clause-found
returns-in-Ok-clause-found c =
    let d = decoded c.args.digits.now c.in-Ok.message.items (c.is_spelling.ensures.0 c.if-not-is_spelling.false) c.in-Ok.ensures.ok in
    (d.is, d.text)
