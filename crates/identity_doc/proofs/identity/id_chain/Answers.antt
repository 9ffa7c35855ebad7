use Rattle.std.proofs.Common.{◌≡◌, ◌∷◌, List, length, sym, ap, subst, ◌∙◌}
use Rattle.std.proofs.lemmas.Result.{err_from_is_err_and}
use Rattle.rad_base.specs.declared.names.Oid.{Oid}
use Rattle.commit_graph.specs.Chains.{IsChain}
use Rattle.identity_doc.proofs.Bounds.{can_decide}
use Rattle.identity_doc.proofs.IdentityLines.{fault_of_line, no_chain}
use Rattle.identity_doc.proofs.identity.id_chain.Goals as goal

pub returns-in_default-clause-refused : goal.returns-in_default-clause-refused
returns-in_default-clause-refused g c = λ m e.
    absurd (no_chain m c.in_ok-commits.commits c.args.tip.now (c.in_ok-commits.ensures.told m e).1
    (ap length (sym c.as_slice.ensures) ∙ c.in_default.ensures.cases))

pub returns-in_err-commits-clause-refused : goal.returns-in_err-commits-clause-refused
returns-in_err-commits-clause-refused g c = λ m e.
    let p = err_from_is_err_and c.from_residual.result c.from_residual.ensures.1 in
    rw (p.1, p.2) (c.in_err-commits.ensures.refused m e c.args.keyring.now c.args.rid.now)

pub returns-in_err-doc-clause-refused : goal.returns-in_err-doc-clause-refused
returns-in_err-doc-clause-refused g c = λ m e.
    let p = err_from_is_err_and c.from_residual-in_err-doc.result c.from_residual-in_err-doc.ensures.1 in
    let told = c.in_ok-commits.ensures.told m e in
    let parts : c.in_ok-commits.commits ≡ c.in-Some.root.now ∷ c.in-Some.later.now = sym c.as_slice.ensures ∙ c.in-Some.ensures.cases.0 in
    rw (p.1, p.2)
    (fault_of_line m c.args.keyring.now c.args.rid.now c.args.tip.now c.in_err-doc.field-0.0 told.0
    (c.in_err-doc.ensures.refused m (c.in_ok-commits.ensures.keeps.content ∙ e) c.args.tip.now
    (subst (λ (l : List Oid). IsChain m l c.args.tip.now) parts told.1)))

pub returns-clause-told : goal.returns-clause-told
returns-clause-told g c = λ m e.
    let told = c.in_ok-commits.ensures.told m e in
    let parts : c.in_ok-commits.commits ≡ c.in-Some.root.now ∷ c.in-Some.later.now = sym c.as_slice.ensures ∙ c.in-Some.ensures.cases.0 in
    let ends = c.in_ok-doc.ensures.told m (c.in_ok-commits.ensures.keeps.content ∙ e) c.args.tip.now (subst (λ (l : List Oid). IsChain m l c.args.tip.now) parts told.1) in
    record { commits = c.in-Some.root.now ∷ c.in-Some.later.now; chain = record { closed = told.0; line = ends.0 }; has = ends.1 }

pub returns-clause-decides : goal.returns-clause-decides
returns-clause-decides g c = can_decide c.args.keyring.now c.in_ok-doc.doc c.in_ok-doc.ensures.text
