use Rattle.std.proofs.Common.{◌≡◌, ℕ, ◌+◌, ◌≤◌, length, ap, ◌∙◌, arith}
use Rattle.rad_vectors.specs.Fixture.{branch_name}
use Rattle.rad_vectors.proofs.FixtureParts.{branches_step}
use Rattle.rad_vectors.proofs.three_delegates.push_branches.Goals as goal

pub branches-preserved : goal.branches-preserved
branches-preserved c =
    let i : ℕ = c.branches.commit-index in
    let name : c.deref.result.now ≡ branch_name i =
    c.deref.ensures.value ∙ (c.in_ok-name.ensures.text ∙ ap branch_name c.branches.invariant.number) in
    let short : length c.deref.result.now ≤ 14 = omega (arith, ap length c.deref.ensures.value, c.in_ok-name.ensures.size) in
    record {
      text = branches_step c.args.bytes.now.items c.branches.bytes.items c.push_ref.new.bytes.items c.deref.result.now c.args.commits.now i _
          (omega arith) c.in_ok-push_ref.ensures.text name c.branches.invariant.text;
      size = omega (arith, c.in_ok-push_ref.ensures.size, short, c.branches.invariant.size);
      number = ap (λ (n : ℕ). n + 1) c.branches.invariant.number;
    }
