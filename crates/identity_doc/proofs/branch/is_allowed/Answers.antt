use Rattle.std.proofs.Common.{◌≡◌, ◌++◌, ℕ, List, codes, subst}
use Rattle.ref_name.specs.Rules.{FindsBroken}
use Rattle.identity_doc.proofs.Branches.{none_broken}
use Rattle.identity_doc.proofs.branch.is_allowed.Goals as goal

pub returns : goal.returns
returns c =
    let named : c.as_bytes.result.now ≡ codes "refs/heads/" ++ c.args.branch.now =
    rw (c.as_bytes.ensures.value, c.in_ok-push_str.ensures.bytes, c.in_ok-name.ensures.ok) in
    none_broken (codes "refs/heads/" ++ c.args.branch.now) c.check_ref_name.result _ c.is_none.ensures
    (subst (λ (n : List ℕ). FindsBroken n c.check_ref_name.result) named c.check_ref_name.ensures)
