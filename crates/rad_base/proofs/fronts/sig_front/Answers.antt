use Rattle.std.proofs.Common.{arith}
use Rattle.rad_base.proofs.OneFront.{front_of}
use Rattle.rad_base.proofs.fronts.sig_front.Goals as goal

pub returns-clause-found : goal.returns-clause-found
returns-clause-found c =
    let cases = c.in_ok-front.ensures.cases in
    let front = front_of 64 c.args.bytes.now c.in_ok-front.front.now c.in_ok-front.rest.now (omega (arith, cases.2)) (λ i. omega (arith, c.type_inv.bytes i)) cases.0 cases.1 in
    (front.whole, front.split)
