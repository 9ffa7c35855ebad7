use Rattle.std.proofs.Common.{◌∙◌}
use Rattle.std.proofs.lemmas.Result.{err_from_is_err_and}
use Rattle.rad_base.proofs.Conditions.{differ}
use Rattle.signed_refs.proofs.Told.{grafted, is_signed, unaccepted_refuses}
use Rattle.signed_refs.proofs.signed_commit.signed_closed.Goals as goal

pub returns-in_err-refs-clause-refused : goal.returns-in_err-refs-clause-refused
returns-in_err-refs-clause-refused g c = λ m e.
    let p = err_from_is_err_and c.from_residual.result c.from_residual.ensures.1 in
    rw (p.1, p.2)
    (unaccepted_refuses m c.args.keyring.now c.args.rid.now c.args.node.now c.args.commit.now c.in_err-refs.field-0.0
    (c.requires m e) (c.in_err-refs.ensures.refused m e))

pub returns-then-not-keeps-clause-refused : goal.returns-then-not-keeps-clause-refused
returns-then-not-keeps-clause-refused g c = λ m e.
    let keeps = c.in_ok-keeps.ensures.told m (c.in_ok-refs.ensures.keeps.content ∙ e) in
    grafted m c.args.keyring.now c.args.rid.now c.args.node.now c.args.commit.now c.in_ok-refs.refs
    (c.requires m e) (c.in_ok-refs.ensures.told m e)
    (λ h. differ c.in_ok-keeps.keeps (keeps.1 h) c.if-not-keeps.true)

pub returns-clause-told : goal.returns-clause-told
returns-clause-told g c = λ m e.
    let keeps = c.in_ok-keeps.ensures.told m (c.in_ok-refs.ensures.keeps.content ∙ e) in
    is_signed m c.args.keyring.now c.args.rid.now c.args.node.now c.args.commit.now c.in_ok-refs.refs
    (c.requires m e) (c.in_ok-refs.ensures.told m e) (keeps.0 c.if-not-keeps.false)
