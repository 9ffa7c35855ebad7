use Rattle.std.proofs.Common.{◌∙◌}
use Rattle.repo_slice.proofs.Identities.{stands_unrefused}
use Rattle.repo_slice.proofs.heads.head_over.Goals as goal

pub returns-in-Err-Whole-clause-told : goal.returns-in-Err-Whole-clause-told
returns-in-Err-Whole-clause-told g c = λ m e good.
    let h = c.in-Err-Whole.ensures.refused m e in
    absurd (stands_unrefused m c.args.keyring.now c.args.state.now c.in-Some.id c.in-Err-Whole.field-0-0 good c.in-Some.is (rw c.in-Err-Whole.field-0-is at h))

pub returns-clause-told : goal.returns-clause-told
returns-clause-told g c = λ m e good.
    let later = c.in-Ok.ensures.keeps.content ∙ e in
    let are = rw (c.deref.ensures.value, c.in_ok-name.ensures, c.as_slice-delegates.ensures) at (c.in_ok-tips.ensures.told m later) in
    let is = rw c.deref-2.ensures.value at (c.in_ok-found.ensures.told m (c.in_ok-tips.ensures.keeps.content ∙ later)) in
    (c.in-Some.id, c.in-Some.is, (c.in-Ok.doc, c.in-Ok.ensures.told m e, rw c.in-Some-default_branch.is (c.in_ok-tips.tips.items, are, is)))
