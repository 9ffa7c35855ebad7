use Rattle.std.proofs.Common.{◌∙◌}
use Rattle.repo_slice.specs.declared.wanting.Stage.TheVariants.{Tips}
use Rattle.repo_slice.specs.Parts.{case_in}
use Rattle.repo_slice.proofs.Passes.{over_later, waits_behind}
use Rattle.repo_slice.proofs.rounds.go_on.Goals as goal

pub returns-in-Err-clause-told : goal.returns-in-Err-clause-told
returns-in-Err-clause-told g c = λ m e.
    let over = c.requires m e in
    over_later m (case_in c.args.terms.now) c.args.remote.now c.in-Err.outcome (rw c.in-Err.is at over)

pub returns-in_ok-progress-in-Ok-check_later-clause-told : goal.returns-in_ok-progress-in-Ok-check_later-clause-told
returns-in_ok-progress-in-Ok-check_later-clause-told g c = λ m e.
    waits_behind m (case_in c.args.terms.now) Tips c.args.remote.now c.args.roots.now.items c.deref.result.now c.wait.new.roots.items
    c.in_ok-progress-in-Ok-check_later.progress c.in_ok-progress-in-Ok-check_later.ensures.grown c.in_ok-progress-in-Ok-check_later.ensures.is
    (c.in-Ok-check_later.refs, c.in-Ok-check_later.ensures.told m e, c.deref.ensures.value ∙ c.in_ok-more-in-Ok-check_later.ensures)

pub returns-in-Err-Outcome-clause-told : goal.returns-in-Err-Outcome-clause-told
returns-in-Err-Outcome-clause-told g c = λ m e.
    let halt = c.in-Err-Outcome.ensures.refused m e in
    let none = c.in-Err-Outcome.ensures.none m e in
    let no_later = rw c.in-Err-Outcome.field-0-is at none in
    rw c.in-Err-Outcome.field-0-is (rw c.in-Err-Outcome.field-0-is at halt, λ wanted. no_later wanted.0 wanted.1)
