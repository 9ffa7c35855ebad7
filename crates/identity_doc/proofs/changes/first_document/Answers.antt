use Rattle.std.proofs.Common.{◌≡◌, refl, rules, sym, ◌∙◌}
use Rattle.std.proofs.lemmas.Result.{err_from_is_err_and}
use Rattle.identity_doc.proofs.changes.first_document.Goals as goal

pub returns-in_default-clause-refused : goal.returns-in_default-clause-refused
returns-in_default-clause-refused g c = λ m e. (refl, λ blob bytes has. (rw c.in_default.is at (c.in_ok-blob.ensures.told m e)) blob has.named)

pub returns-in_err-doc-clause-refused : goal.returns-in_err-doc-clause-refused
returns-in_err-doc-clause-refused g c = λ m e.
    let p = err_from_is_err_and c.from_residual-in_err-doc.result c.from_residual-in_err-doc.ensures.1 in
    rw (p.1, p.2) ((c.in_err-doc.ensures.refused m (c.in_ok-blob.ensures.keeps.content ∙ e)).first c.args.rid.now (search rules))

pub returns-clause-told : goal.returns-clause-told
returns-clause-told g c = λ m e.
    let same : c.in-Some.blob ≡ c.args.rid.now.0 = search rules in
    rw (sym same) (c.in_ok-doc.ensures.told m (c.in_ok-blob.ensures.keeps.content ∙ e))
