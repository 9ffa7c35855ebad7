use Rattle.std.proofs.Common.{◌∙◌}
use Rattle.std.proofs.lemmas.Bool.{false≢true}
use Rattle.tree_entry.proofs.Through.{no_commit, parent_no_root, root_by_document}
use Rattle.tree_entry.proofs.identity.is_identity_root.Goals as goal

pub returns-in_default-clause-told : goal.returns-in_default-clause-told
returns-in_default-clause-told g c = λ m e. (
  λ h. absurd (false≢true h),
  λ root. absurd (no_commit m c.args.oid.now c.in_ok-found.field-0 root.commit (c.in_ok-found.ensures.told m e) c.in_default.is root.has),
)

pub returns-then-found-clause-told : goal.returns-then-found-clause-told
returns-then-found-clause-told g c = λ m e. (
  λ h. absurd (false≢true h),
  λ root. absurd (parent_no_root m c.args.rid.now c.args.oid.now c.in_ok-found.field-0 c.in-Some.found (c.in_ok-found.ensures.told m e) c.in-Some.is c.if-found.true root),
)

pub returns-clause-told : goal.returns-clause-told
returns-clause-told g c = λ m e.
    root_by_document m c.args.rid.now c.args.oid.now c.in_ok-found.field-0 c.in-Some.found c.in_ok-document.document c.is_named_after.result
    (c.in_ok-found.ensures.told m e) c.in-Some.is c.if-found.false (c.in_ok-document.ensures.told m (c.in_ok-found.ensures.keeps.content ∙ e)) c.is_named_after.ensures
