use Rattle.std.proofs.Common.{[], get_or, refl, ◌∙◌, arith}
use Rattle.std.proofs.lemmas.List.{take_all}
use Rattle.std.proofs.lemmas.Result.{err_from_is_err_and}
use Rattle.rad_base.specs.declared.names.Oid.{Oid}
use Rattle.identity_doc.proofs.IdentityLines.{ends_all, ends_first, ends_more, fails_later}
use Rattle.identity_doc.proofs.identity.last_document.Goals as goal

pub loop-commit-init : goal.loop-commit-init
loop-commit-init g c = record {
  kept = c.in_ok-doc.ensures.keeps.content;
  beside = c.in_ok-doc.ensures.keeps.beside;
  text = c.in_ok-doc.ensures.text;
  still = c.in_ok-doc.ensures.keeps.cause;
  line = λ m e tip chain. ends_first m c.args.keyring.now c.args.rid.now c.args.root c.args.later.now tip chain c.in_ok-doc.doc (c.in_ok-doc.ensures.told m e);
}

pub returns-in_err-changed-clause-refused : goal.returns-in_err-changed-clause-refused
returns-in_err-changed-clause-refused g c = λ m e tip chain.
    let p = err_from_is_err_and c.from_residual-in_err-changed.result c.from_residual-in_err-changed.ensures.1 in
    let none : Oid = record { 0 = [] } in
    rw (p.1, p.2)
    (fails_later m c.args.keyring.now c.args.rid.now c.args.root c.args.later.now tip chain c.loop-commit.commit-index c.loop-commit.parent c.loop-commit.doc
    (get_or c.args.later.now c.loop-commit.commit-index none) none c.in_err-changed.field-0.0 (c.loop-commit.invariant.line m e tip chain)
    (omega arith) refl (c.in_err-changed.ensures.refused m (c.loop-commit.invariant.kept ∙ e)))

pub loop-commit-preserved : goal.loop-commit-preserved
loop-commit-preserved g c = record {
  kept = c.in_ok-changed.ensures.keeps.content ∙ c.loop-commit.invariant.kept;
  beside = c.in_ok-changed.ensures.keeps.beside ∙ c.loop-commit.invariant.beside;
  text = c.in_ok-changed.ensures.text;
  still = c.in_ok-changed.ensures.keeps.cause ∙ c.loop-commit.invariant.still;
  line = λ m e tip chain.
      let told = c.loop-commit.invariant.kept ∙ e in
      let none : Oid = record { 0 = [] } in
      ends_more m c.args.keyring.now c.args.rid.now c.args.root c.args.later.now tip chain c.loop-commit.commit-index c.loop-commit.parent c.loop-commit.doc
      (get_or c.args.later.now c.loop-commit.commit-index none) none c.in_ok-changed.changed (c.loop-commit.invariant.line m e tip chain)
      (omega arith) refl (c.in_ok-changed.ensures.told m told) (c.in_ok-changed.ensures.approved m told);
}

pub returns-clause-told : goal.returns-clause-told
returns-clause-told g c = λ m e tip chain.
    ends_all m c.args.keyring.now c.args.rid.now c.args.root c.args.later.now tip c.loop-commit.commit-index c.loop-commit.parent c.loop-commit.doc chain
    (c.loop-commit.invariant.line m e tip chain) (take_all c.loop-commit.commit-index c.args.later.now (omega arith))
