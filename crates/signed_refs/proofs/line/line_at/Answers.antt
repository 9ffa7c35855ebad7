use Rattle.rad_base.proofs.OneFront.{if_none}
use Rattle.rad_base.proofs.Conditions.{differ}
use Rattle.signed_refs.proofs.OneLine.{no_feed, no_name, no_space}
use Rattle.signed_refs.proofs.line.line_at.Goals as goal

pub returns-in_err-rest-clause-none : goal.returns-in_err-rest-clause-none
returns-in_err-rest-clause-none c =
    let oid = c.in_ok-oid.ensures.found in
    if_none c.from_residual-in_err-rest.result _
    (no_space c.in_ok-oid.oid c.in_ok-oid.rest.now c.args.bytes.now oid.0 oid.1 c.in_err-rest.ensures.none)

pub returns-in_err-name-clause-none : goal.returns-in_err-name-clause-none
returns-in_err-name-clause-none c =
    let oid = c.in_ok-oid.ensures.found in
    if_none c.from_residual-in_err-name.result _
    (no_feed c.in_ok-oid.oid c.in_ok-oid.rest.now c.in_ok-rest.rest.now c.args.bytes.now oid.0 oid.1 c.in_ok-rest.ensures.found c.in_err-name.ensures.none)

pub returns-else-is_signed_name-clause-none : goal.returns-else-is_signed_name-clause-none
returns-else-is_signed_name-clause-none c =
    let oid = c.in_ok-oid.ensures.found in
    let name = c.in_ok-name.ensures.found in
    no_name c.in_ok-oid.oid c.in_ok-oid.rest.now c.in_ok-rest.rest.now c.in_ok-name.name.now c.in_ok-name.rest.now c.args.bytes.now
    oid.0 oid.1 c.in_ok-rest.ensures.found name.0 name.1
    (λ is. differ c.is_signed_name.result (c.is_signed_name.ensures.1 is) c.if-is_signed_name.false)
