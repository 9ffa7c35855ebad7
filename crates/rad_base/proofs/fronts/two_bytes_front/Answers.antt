use Rattle.std.proofs.Common.{◌++◌, List, ℕ, sym, ap, ◌∙◌, arith}
use Rattle.rad_base.proofs.OneFront.{front_of}
use Rattle.rad_base.proofs.BigEndian.{two_of}
use Rattle.rad_base.proofs.fronts.two_bytes_front.Goals as goal

pub returns-clause-found : goal.returns-clause-found
returns-clause-found c =
    let cases = c.in_ok-number.ensures.cases in
    let front = front_of 2 c.args.bytes.now c.in_ok-number.number.now c.in_ok-number.rest.now (omega (arith, cases.2)) (λ i. omega (arith, c.type_inv.bytes i)) cases.0 cases.1 in
    (omega arith, front.split ∙ ap (λ (l : List ℕ). l ++ c.in_ok-number.rest.now) (sym (two_of c.in_ok-number.number.now _ front.whole c.from_be_bytes.ensures)))
