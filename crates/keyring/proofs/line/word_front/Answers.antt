use Rattle.rad_base.proofs.OneFront.{if_none}
use Rattle.keyring.proofs.LineFronts.{no_word}
use Rattle.keyring.proofs.line.word_front.Goals as goal

pub returns-in_err-rest-clause-none : goal.returns-in_err-rest-clause-none
returns-in_err-rest-clause-none c =
    let found = c.in_ok-nid.ensures.found in
    if_none c.from_residual-in_err-rest.result _
    (no_word c.args.bytes.now c.in_ok-nid.nid c.in_ok-nid.rest.now found.0 found.1 c.in_err-rest.ensures.none)
