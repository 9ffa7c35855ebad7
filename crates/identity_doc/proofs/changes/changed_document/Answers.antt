use Rattle.std.proofs.Common.{refl, sym, ◌∙◌}
use Rattle.std.proofs.lemmas.Result.{err_from_is_err_and}
use Rattle.identity_doc.proofs.changes.changed_document.Goals as goal

pub returns-in_default-clause-refused : goal.returns-in_default-clause-refused
returns-in_default-clause-refused g c = λ m e. (refl, λ blob bytes has. (rw c.in_default.is at (c.in_ok-blob.ensures.told m e)) blob has.named)

pub returns-in_err-doc-clause-refused : goal.returns-in_err-doc-clause-refused
returns-in_err-doc-clause-refused g c = λ m e.
    let p = err_from_is_err_and c.from_residual-in_err-doc.result c.from_residual-in_err-doc.ensures.1 in
    rw (p.1, p.2) ((c.in_err-doc.ensures.refused m (c.in_ok-blob.ensures.keeps.content ∙ e)).change c.args.parent c.args.before.now)

pub approve-requires-clause-has : goal.approve-requires-clause-has
approve-requires-clause-has g c = λ m e.
    (c.in_ok-doc.doc, (c.in-Some.blob, c.in_ok-doc.ensures.told m (sym c.in_ok-doc.ensures.keeps.content ∙ e)))

pub returns-in_err-approve-clause-refused : goal.returns-in_err-approve-clause-refused
returns-in_err-approve-clause-refused g c = λ m e.
    let p = err_from_is_err_and c.from_residual-in_err-approve.result c.from_residual-in_err-approve.ensures.1 in
    rw (p.1, p.2) (c.in_err-approve.ensures.refused m (c.in_ok-doc.ensures.keeps.content ∙ (c.in_ok-blob.ensures.keeps.content ∙ e)))

pub returns-clause-told : goal.returns-clause-told
returns-clause-told g c = λ m e. (c.in-Some.blob, c.in_ok-doc.ensures.told m (c.in_ok-blob.ensures.keeps.content ∙ e))
