use Rattle.rad_base.proofs.OneFront.{if_none}
use Rattle.rad_base.proofs.Conditions.{differ}
use Rattle.keyring.proofs.LineFronts.{no_stop, no_text}
use Rattle.keyring.proofs.line.text_front.Goals as goal

pub returns-in_err-text-clause-none : goal.returns-in_err-text-clause-none
returns-in_err-text-clause-none c =
    if_none c.from_residual.result _ (λ text rest is e. no_stop 32 c.args.bytes.now c.in_err-text.ensures.none text rest e)

pub returns-else-is_text-clause-none : goal.returns-else-is_text-clause-none
returns-else-is_text-clause-none c =
    let found = c.in_ok-text.ensures.found in
    no_text c.args.bytes.now c.in_ok-text.text.now c.in_ok-text.rest.now found.0 found.1
    (λ is. differ c.is_text.result (c.is_text.ensures.1 is) c.if-is_text.false)
