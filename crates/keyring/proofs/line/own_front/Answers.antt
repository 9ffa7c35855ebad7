use Rattle.keyring.proofs.LineFronts.{no_own_end, no_own_message}
use Rattle.keyring.proofs.line.own_front.Goals as goal

pub returns-in_default-line_front-clause-none : goal.returns-in_default-line_front-clause-none
returns-in_default-line_front-clause-none c =
    no_own_end c.args.bytes.now c.in-Some.rest.now c.in-Some.ensures.found c.in_default-line_front.ensures.none

pub returns-in-None-clause-none : goal.returns-in-None-clause-none
returns-in-None-clause-none c =
    let line = c.in-Some-line_front.ensures.found in
    no_own_message c.args.bytes.now c.in-Some.rest.now c.in-Some-line_front.digits.now c.in-Some-line_front.rest.now
    c.in-Some.ensures.found line.0 line.1 (rw c.in-None.is at c.in_ok-message.ensures.none)
