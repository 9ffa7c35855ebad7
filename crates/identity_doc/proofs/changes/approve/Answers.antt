use Rattle.std.proofs.Common.{◌≡◌, sym, ◌∙◌, refl, length}
use Rattle.std.proofs.lemmas.Result.{err_from_is_err_and}
use Rattle.identity_doc.specs.Majorities.{change_message, majority, signed_by}
use Rattle.identity_doc.proofs.changes.approve.Goals as goal

pub returns-then-have-need-clause-refused : goal.returns-then-have-need-clause-refused
returns-then-have-need-clause-refused g c = λ m e.
    let count : c.signed_by-have.result ≡ signed_by c.args.keyring.now (change_message c.args.parent c.args.blob.now) c.in_ok-lines.lines.items c.args.before.now.delegates =
    c.signed_by-have.ensures ∙ rw (c.deref.ensures.value, c.deref-2.ensures.value, c.in_ok-message.ensures, c.as_slice-delegates.ensures) refl in
    let need : c.majority-need.result ≡ majority (length c.args.before.now.delegates) = c.majority-need.ensures ∙ rw c.as_slice-delegates.ensures refl in (
      refl,
      c.requires.has m e,
      record {
        signed = record { blob = c.args.blob.now; named = c.requires.named m e; lines = c.in_ok-lines.lines.items; has = c.in_ok-lines.ensures.told m e; count = count };
        majority = need;
        few = c.if-have-need.true;
      },
    )

pub returns-in_err-lines-clause-refused : goal.returns-in_err-lines-clause-refused
returns-in_err-lines-clause-refused g c = λ m e.
    let p = err_from_is_err_and c.from_residual.result c.from_residual.ensures.1 in
    rw (p.1, p.2) (c.in_err-lines.ensures.refused m e c.args.keyring.now c.args.parent c.args.before.now (c.requires.has m e))

pub returns-clause-told : goal.returns-clause-told
returns-clause-told g c = λ m e.
    let count : c.signed_by-have.result ≡ signed_by c.args.keyring.now (change_message c.args.parent c.args.blob.now) c.in_ok-lines.lines.items c.args.before.now.delegates =
    c.signed_by-have.ensures ∙ rw (c.deref.ensures.value, c.deref-2.ensures.value, c.in_ok-message.ensures, c.as_slice-delegates.ensures) refl in
    let need : c.majority-need.result ≡ majority (length c.args.before.now.delegates) = c.majority-need.ensures ∙ rw c.as_slice-delegates.ensures refl in
    record {
      signers = c.signed_by-have.result;
      signed = record { blob = c.args.blob.now; named = c.requires.named m e; lines = c.in_ok-lines.lines.items; has = c.in_ok-lines.ensures.told m e; count = count };
      enough = rw (sym need) c.if-have-need.false;
    }
