use Rattle.std.proofs.Common.{arith}
use Rattle.rad_base.proofs.OneFront.{if_none, no_text_here, no_text_short, text_front}
use Rattle.git_object.proofs.digits.name_front.Goals as goal

pub returns-in_err-digits-clause-none : goal.returns-in_err-digits-clause-none
returns-in_err-digits-clause-none c =
    if_none c.from_residual.result _ (λ oid rest whole e.
    no_text_short 20 c.args.bytes.now (omega (arith, c.in_err-digits.ensures.cases)) oid.0 rest whole e)

pub returns-in_err-oid-clause-none : goal.returns-in_err-oid-clause-none
returns-in_err-oid-clause-none c =
    if_none c.from_residual-in_err-oid.result _ (λ oid rest whole e.
    no_text_here 20 c.args.bytes.now c.in_ok-digits.digits.now c.in_ok-digits.ensures.cases.0 c.in_err-oid.ensures.none oid.0 rest whole e)

pub returns-clause-found : goal.returns-clause-found
returns-clause-found c =
    let cases = c.in_ok-digits.ensures.cases in
    let found = c.in_ok-oid.ensures.found in
    (found.0, text_front 20 c.args.bytes.now c.in_ok-digits.digits.now c.in_ok-digits.rest.now c.in_ok-oid.oid.0 cases.0 cases.1 found.1)
