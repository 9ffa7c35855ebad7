use Rattle.std.proofs.Common.{◌≡◌, Some, refl, sym, ap, ◌∙◌, rules}
use Rattle.std.proofs.lemmas.Result.{err_from_is_err_and}
use Rattle.rad_base.proofs.Conditions.{differ}
use Rattle.repo_slice.proofs.Identities.{new_id, offered_refused, stands_refused}
use Rattle.repo_slice.proofs.identity.judge_id.Goals as goal

pub returns-in_err-doc-2-clause-refused : goal.returns-in_err-doc-2-clause-refused
returns-in_err-doc-2-clause-refused g c = λ m e good.
    let p = err_from_is_err_and c.from_residual-in_err-doc-2.result c.from_residual-in_err-doc-2.ensures.1 in
    let same : c.args.id.now ≡ c.in-Some.stands = search rules in
    rw (p.1, p.2)
    (stands_refused m c.args.keyring.now c.args.state.now c.args.id.now c.args.id.now c.in_err-doc-2.field-0.0 good (c.in-Some.is ∙ ap Some (sym same))
    (c.in_err-doc-2.ensures.refused m e))

pub returns-in_err-doc-3-clause-refused : goal.returns-in_err-doc-3-clause-refused
returns-in_err-doc-3-clause-refused g c = λ m e good.
    let p = err_from_is_err_and c.from_residual-in_err-doc-3.result c.from_residual-in_err-doc-3.ensures.1 in
    rw (p.1, p.2)
    (stands_refused m c.args.keyring.now c.args.state.now c.in-Some.stands c.args.id.now c.in_err-doc-3.field-0.0 good c.in-Some.is
    (c.in_err-doc-3.ensures.refused m (c.in_ok-is_old.ensures.keeps.content ∙ e)))

pub returns-in_err-doc-4-clause-refused : goal.returns-in_err-doc-4-clause-refused
returns-in_err-doc-4-clause-refused g c = λ m e good.
    let p = err_from_is_err_and c.from_residual-in_err-doc-4.result c.from_residual-in_err-doc-4.ensures.1 in
    let new = new_id m c.args.keyring.now c.args.state.now c.args.id.now c.in-Some.stands c.in-Some.is
    (λ h. differ c.in_ok-is_old.is_old ((c.in_ok-is_old.ensures.told m e).1 h) c.if-is_old.false) in
    rw (p.1, p.2)
    (offered_refused m c.args.keyring.now c.args.state.now c.args.id.now c.in_err-doc-4.field-0.0 new
    (c.in_err-doc-4.ensures.refused m (c.in_ok-is_old.ensures.keeps.content ∙ e)))

pub returns-then-not-follows-clause-refused : goal.returns-then-not-follows-clause-refused
returns-then-not-follows-clause-refused g c = λ m e good.
    let later = c.in_ok-is_old.ensures.keeps.content ∙ e in
    record {
      new = new_id m c.args.keyring.now c.args.state.now c.args.id.now c.in-Some.stands c.in-Some.is
          (λ h. differ c.in_ok-is_old.is_old ((c.in_ok-is_old.ensures.told m e).1 h) c.if-is_old.false);
      doc = c.in_ok-doc-4.doc;
      identity = c.in_ok-doc-4.ensures.told m later;
      stands = c.in-Some.stands;
      is = c.in-Some.is;
      apart = λ h. differ c.in_ok-follows.follows ((c.in_ok-follows.ensures.told m (c.in_ok-doc-4.ensures.keeps.content ∙ later)).1 h) c.if-not-follows.true;
    }

pub returns-clause-told : goal.returns-clause-told
returns-clause-told g c = λ m e.
    let later = c.in_ok-is_old.ensures.keeps.content ∙ e in (
      (
        new_id m c.args.keyring.now c.args.state.now c.args.id.now c.in-Some.stands c.in-Some.is
            (λ h. differ c.in_ok-is_old.is_old ((c.in_ok-is_old.ensures.told m e).1 h) c.if-is_old.false),
        (c.in-Some.stands, c.in-Some.is, (c.in_ok-follows.ensures.told m (c.in_ok-doc-4.ensures.keeps.content ∙ later)).0 c.if-not-follows.false),
        refl,
      ),
      c.in_ok-doc-4.ensures.told m later,
    )
