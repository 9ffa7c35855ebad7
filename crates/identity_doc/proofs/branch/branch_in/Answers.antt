use Rattle.std.proofs.Common.{◌≡◌, ◌∙◌, Some, true≢false, sym}
use Rattle.serde_json.specs.View.{view}
use Rattle.identity_doc.specs.Documents.{branch_text}
use Rattle.identity_doc.proofs.Branches.{named, unnamed}
use Rattle.identity_doc.proofs.branch.branch_in.Goals as goal

pub returns-then-not-branch : goal.returns-then-not-branch
returns-then-not-branch c =
    let said : branch_text (view c.args.payload.now) ≡ Some c.in-Some.branch.now = sym c.in-Some.ensures in
    unnamed (view c.args.payload.now) c.in-Some.branch.now said
    (λ keeps. true≢false (sym (c.in_ok-is_allowed.ensures.1 keeps) ∙ c.if-not-branch.true))

pub returns : goal.returns
returns c =
    named (view c.args.payload.now) c.in-Some.branch.now c.of.result (sym c.in-Some.ensures)
    (c.in_ok-is_allowed.ensures.0 c.if-not-branch.false) (c.of.ensures ∙ c.in_ok-branch.ensures.ok)
