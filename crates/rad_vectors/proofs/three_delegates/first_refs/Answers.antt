use Rattle.std.proofs.Common.{◌≡◌, length, ap, arith}
use Rattle.rad_vectors.proofs.three_delegates.first_refs.Goals as goal

pub returns-clause-size : goal.returns-clause-size
returns-clause-size c =
    let none : length c.new-refs.result.items ≡ 0 = ap length c.new-refs.ensures.items in
    omega (arith, none, c.in_ok-push_branches.ensures.size, c.in_ok-push_ref.ensures.size, c.in_ok-push_ref-2.ensures.size, c.in_ok-push_ref-3.ensures.size)
