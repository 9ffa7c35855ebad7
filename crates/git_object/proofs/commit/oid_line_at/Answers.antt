use Rattle.rad_base.proofs.OneFront.{if_none}
use Rattle.git_object.proofs.Lines.{no_line_digits, no_line_end}
use Rattle.git_object.proofs.commit.oid_line_at.Goals as goal

pub returns-in_err-oid-clause-none : goal.returns-in_err-oid-clause-none
returns-in_err-oid-clause-none c =
    if_none c.from_residual-in_err-oid.result _
    (no_line_digits c.args.word.now c.args.bytes.now c.in_ok-digits.digits.now c.in_ok-digits.ensures.found c.in_err-oid.ensures.none)

pub returns-in_err-rest-clause-none : goal.returns-in_err-rest-clause-none
returns-in_err-rest-clause-none c =
    let found = c.in_ok-oid.ensures.found in
    if_none c.from_residual-in_err-rest.result _
    (no_line_end c.args.word.now c.args.bytes.now c.in_ok-digits.digits.now c.in_ok-oid.rest.now c.in_ok-oid.oid
    c.in_ok-digits.ensures.found found.0 found.1 c.in_err-rest.ensures.none)
