use Rattle.std.proofs.Common.{sym, inr, ⊎_elim, ◌∙◌}
use Rattle.std.specs.Prelude.{Contains}
use Rattle.rad_base.proofs.Conditions.{differ}
use Rattle.repo_slice.proofs.FollowedNodes.{any_has}
use Rattle.repo_slice.proofs.terms.is_in_scope.Goals as goal

pub returns-else-is_delegate : goal.returns-else-is_delegate
returns-else-is_delegate c =
    let nodes = c.in-Followed.field-0 in
    let node = c.args.node.now in
    let known = c.args.terms.now.known node in
    let found = c.contains.ensures ∙ (rw c.in-Followed.is at known) in
    let absent : Contains c.as_slice-delegates.result.now node → ⊥ =
    λ d. differ c.is_delegate.result (c.is_delegate.ensures.1 d) c.if-is_delegate.false in
    rw (c.in-Followed.is, sym c.as_slice-delegates.ensures)
    (λ h. inr ((any_has nodes node).0 (sym found ∙ h)), λ h. ⊎_elim (λ d. absurd (absent d)) (λ d. found ∙ (any_has nodes node).1 d) h)
