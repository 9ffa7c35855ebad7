use Rattle.std.proofs.Common.{List, sym, subst, ◌∙◌}
use Rattle.commit_graph.specs.declared.answer.Closure.{Closure}
use Rattle.commit_graph.specs.declared.root.Root.{Root}
use Rattle.commit_graph.specs.Many.{AreClosures}
use Rattle.repo_slice.specs.declared.progress.Progress.{Progress}
use Rattle.repo_slice.specs.declared.wanting.Stage.TheVariants.{Tips}
use Rattle.repo_slice.specs.Parts.{case_in}
use Rattle.repo_slice.specs.Rounds.{AreProgress}
use Rattle.repo_slice.proofs.judging.judge_remotes.Goals as goal

pub returns-clause-told : goal.returns-clause-told
returns-clause-told g c = λ m e.
    let roots = c.in_ok-round.round.roots.items in
    let answers = c.in_ok-answers.answers.items in
    let answered : AreClosures m roots answers =
    subst (λ (l : List Root). AreClosures m l answers) c.deref.ensures.value (c.in_ok-answers.ensures.told m (c.in_ok-round.ensures.keeps.content ∙ e)) in
    c.in_ok-remarks.ensures.told m roots (subst (λ (l : List Closure). AreClosures m roots l) (sym c.deref-3.ensures.value) answered)
    (subst (λ (l : List Progress). AreProgress m (case_in c.args.terms.now) Tips roots c.args.remotes.now l) (sym c.deref-2.ensures.value)
    (c.in_ok-round.ensures.told m e))
