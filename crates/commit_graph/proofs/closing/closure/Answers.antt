use Rattle.std.proofs.Common.{◌≡◌, List, take, refl, sym, subst, ◌∙◌, arith}
use Rattle.std.proofs.lemmas.List.{take_all}
use Rattle.commit_graph.specs.declared.answer.Closure.{Closure}
use Rattle.commit_graph.specs.declared.look.Looked.{Looked}
use Rattle.commit_graph.specs.declared.root.Root.{Root}
use Rattle.commit_graph.specs.Looks.{Shows}
use Rattle.commit_graph.specs.Closures.{IsClosure}
use Rattle.commit_graph.proofs.LookUps.{looks_turn, looks_all, looks_more}
use Rattle.commit_graph.proofs.Adding.{extends_along, extends_same}
use Rattle.commit_graph.proofs.ClosureTurns.{progress_turn, turned_missing, turned_unfit, turned_fit, covers_all, closure_answer, Tally}
use Rattle.commit_graph.proofs.Spread.{spread_all}
use Rattle.commit_graph.proofs.closing.closure.Goals as goal
use Rattle.commit_graph.proofs.closing.closure.Goals.{in-Missing, in-Unfit, in-Fit+in_ok-follow-in-Fit}

pub loop-i-preserved : goal.loop-i-preserved
loop-i-preserved g c = record {
  kept = c.in_ok-look.ensures.keeps.content ∙ c.loop-i.invariant.kept;
  beside = c.in_ok-look.ensures.keeps.beside ∙ c.loop-i.invariant.beside;
  still = c.in_ok-look.ensures.keeps.cause ∙ c.loop-i.invariant.still;
  looked = λ m e. elim c.match-branch-3.branch [
    | in-Missing w ↦ looks_turn _ _ _ c.loop-i.i c.at-pair.result c.at-pair.ensures (extends_same w.found-is) c.in_ok-look.ensures.looked (c.loop-i.invariant.looked m e)
    | in-Unfit w ↦ looks_turn _ _ _ c.loop-i.i c.at-pair.result c.at-pair.ensures (extends_same w.found-is) c.in_ok-look.ensures.looked (c.loop-i.invariant.looked m e)
    | in-Fit+in_ok-follow-in-Fit w ↦ looks_turn _ _ _ c.loop-i.i c.at-pair.result c.at-pair.ensures
        (extends_along refl (sym w.found-is) w.in_ok-follow-in-Fit.ensures) c.in_ok-look.ensures.looked (c.loop-i.invariant.looked m e)
  ];
  progress = λ m e.
      let told : Shows m c.at-pair.result c.in_ok-look.field-0 = c.in_ok-look.ensures.told m (c.loop-i.invariant.kept ∙ e) in
      let shows = λ (looked : Looked). Shows m c.at-pair.result looked in
      progress_turn c.at-pair.result c.at-pair.ensures (c.loop-i.invariant.progress m e)
      (elim c.match-branch-3.branch [
        | in-Missing w ↦ turned_missing (subst shows w.in-Missing.is told) w.found-is w.missing-is w.lesser.ensures w.unfit-is
        | in-Unfit w ↦ turned_unfit (subst shows w.in-Unfit.is told) w.found-is w.missing-is w.unfit-is w.lesser-in-Unfit.ensures
        | in-Fit+in_ok-follow-in-Fit w ↦ turned_fit (subst shows w.in-Fit.is told)
            (extends_along refl (sym w.found-is) w.in_ok-follow-in-Fit.ensures) w.missing-is w.unfit-is
      ]);
}

pub returns-clause-told : goal.returns-clause-told
returns-clause-told g c = λ m e.
    let all : take c.loop-i.i c.loop-i.found ≡ c.loop-i.found = take_all c.loop-i.i c.loop-i.found (omega arith) in
    let h = c.loop-i.invariant.progress m e in
    subst (λ (answer : Closure). IsClosure m c.args.roots.now answer) (sym c.answer.ensures)
    (closure_answer m c.args.roots.now c.loop-i.found (covers_all (spread_all h.spread all)) c.loop-i.missing c.loop-i.unfit
    (g.met.O.Objects.named c.args.objects.now m e) (subst (λ (done : List Root). Tally m done c.loop-i.missing c.loop-i.unfit) all h.tally))

pub returns-in_err-look-clause-looked : goal.returns-in_err-look-clause-looked
returns-in_err-look-clause-looked g c = λ m e pairs cover.
    looks_more _ _ _ c.loop-i.i c.at-pair.result pairs c.at-pair.ensures c.in_err-look.ensures.looked (c.loop-i.invariant.looked m e)
    (c.loop-i.invariant.progress m e).spread c.len.ensures.differ cover

pub returns-in_err-follow-in-Fit-clause-looked : goal.returns-in_err-follow-in-Fit-clause-looked
returns-in_err-follow-in-Fit-clause-looked g c = λ m e pairs cover.
    looks_more _ _ _ c.loop-i.i c.at-pair.result pairs c.at-pair.ensures c.in_ok-look.ensures.looked (c.loop-i.invariant.looked m e)
    (c.loop-i.invariant.progress m e).spread c.len.ensures.differ cover

pub returns-clause-looked : goal.returns-clause-looked
returns-clause-looked g c = λ m e pairs cover.
    looks_all _ _ c.loop-i.i pairs (c.loop-i.invariant.looked m e) (c.loop-i.invariant.progress m e).spread c.len.ensures.differ cover
