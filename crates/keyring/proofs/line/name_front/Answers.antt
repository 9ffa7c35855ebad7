use Rattle.rad_base.proofs.OneFront.{if_none}
use Rattle.keyring.proofs.LineFronts.{no_name_key, no_name_end}
use Rattle.keyring.proofs.line.name_front.Goals as goal

pub returns-in_err-key-clause-none : goal.returns-in_err-key-clause-none
returns-in_err-key-clause-none c =
    let text = c.in_ok-text.ensures.found in
    if_none c.from_residual-in_err-key.result _
    (no_name_key c.args.bytes.now c.in_ok-rest.rest.now c.in_ok-text.text.now c.in_ok-text.rest.now
    c.in_ok-rest.ensures.found text.0 text.1 c.in_err-key.ensures.none)

pub returns-in_err-rest-2-clause-none : goal.returns-in_err-rest-2-clause-none
returns-in_err-rest-2-clause-none c =
    let text = c.in_ok-text.ensures.found in
    let key = c.in_ok-key.ensures.found in
    if_none c.from_residual-in_err-rest-2.result _
    (no_name_end c.args.bytes.now c.in_ok-rest.rest.now c.in_ok-text.text.now c.in_ok-text.rest.now c.in_ok-key.key c.in_ok-key.rest.now
    c.in_ok-rest.ensures.found text.0 text.1 key.0 key.1 c.in_err-rest-2.ensures.none)
