use Rattle.std.proofs.Common.{◌≡◌, ◌≤◌, List, length, sym, subst, arith}
use Rattle.std.specs.Prelude.{slice_range}
use Rattle.commit_graph.specs.declared.answer.Closure.{Closure}
use Rattle.commit_graph.specs.Many.{AreClosures}
use Rattle.commit_graph.proofs.ManyRoots.{closures_many, closures_range}
use Rattle.repo_slice.specs.declared.progress.Progress.{Progress}
use Rattle.repo_slice.specs.Rounds.{IsProgress}
use Rattle.repo_slice.proofs.progress.reach_of.Goals as goal

pub returns-in-Waits-clause-told : goal.returns-in-Waits-clause-told
returns-in-Waits-clause-told c = λ m case stage roots p answered h.
    let answers = c.args.answers.now in
    let from = c.in-Waits.from in
    let to = c.in-Waits.to in
    let here = subst (λ (x : Progress). IsProgress m case stage roots p x) c.in-Waits.is h in
    let within : to ≤ length answers = omega (arith, here.1, closures_many m roots answers answered) in
    let part : c.part_of.result.now ≡ slice_range answers from to = c.part_of.ensures here.0 within in
    let some = slice_range roots from to in (
      some,
      here.2,
      c.joined.ensures m some
          (subst (λ (l : List Closure). AreClosures m some l) (sym part) (closures_range m roots answers from to answered)),
    )
