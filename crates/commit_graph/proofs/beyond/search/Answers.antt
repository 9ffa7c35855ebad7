use Rattle.std.proofs.Common.{◌≡◌, List, Some, slice_get, take, sym, subst, refl, ◌∙◌, arith}
use Rattle.std.proofs.lemmas.List.{take_all}
use Rattle.std.proofs.lemmas.Option.{slice_get_within}
use Rattle.commit_graph.specs.declared.root.Root.{Root}
use Rattle.commit_graph.specs.declared.answer.Closure.{Closure}
use Rattle.commit_graph.specs.Lists.{Extends}
use Rattle.commit_graph.proofs.Adding.{extends_along}
use Rattle.commit_graph.specs.Closures.{IsClosure}
use Rattle.commit_graph.proofs.Spread.{spread_all}
use Rattle.commit_graph.proofs.ClosureTurns.{Tally, notes, closure_answer}
use Rattle.commit_graph.proofs.BeyondTurns.{search_start, search_turn, appends}
use Rattle.commit_graph.proofs.BeyondWalks.{covers_beyond, cost_once, cost_within, has_root}
use Rattle.commit_graph.proofs.beyond.search.Goals as goal
use Rattle.commit_graph.proofs.beyond.search.Goals.{in-Missing, in-Unfit, in-Fit+in_ok-follow-in-Fit}

pub loop-i-init : goal.loop-i-init
loop-i-init g c = record {
  kept = refl;
  beside = refl;
  still = refl;
  looked = omega arith;
  progress = λ m e. search_start m c.args.known.now c.args.roots.now c.extend.new.self c.new-facts.result c.args.steps.now
      (extends_along refl refl (subst (λ (xs : List Root). Extends xs c.args.roots.now c.extend.new.self) c.new-found.ensures c.in_ok-extend.ensures)) c.new-facts.ensures;
}

pub returns-in_err-test_pair-clause-cost : goal.returns-in_err-test_pair-clause-cost
returns-in_err-test_pair-clause-cost g c = λ m e names fit cover cover_fit.
    let at : slice_get c.loop-i.found c.loop-i.i ≡ Some c.at-pair.result = c.at-pair.ensures in
    let h = c.loop-i.invariant.progress m e in
    let within = slice_get_within c.loop-i.found c.loop-i.i c.at-pair.result at in
    omega (arith, within, cost_within m _ _ _ _ _ _ _ _ _ h names fit cover cover_fit, has_root m _ _ _ _ _ _ _ _ _ h c.at-pair.result at, c.in_err-test_pair.ensures.cost)

pub returns-in_err-follow-in-Fit-clause-cost : goal.returns-in_err-follow-in-Fit-clause-cost
returns-in_err-follow-in-Fit-clause-cost g c = λ m e names fit cover cover_fit.
    let at : slice_get c.loop-i.found c.loop-i.i ≡ Some c.at-pair.result = c.at-pair.ensures in
    let h = c.loop-i.invariant.progress m e in
    let within = slice_get_within c.loop-i.found c.loop-i.i c.at-pair.result at in
    omega (arith, within, cost_within m _ _ _ _ _ _ _ _ _ h names fit cover cover_fit, has_root m _ _ _ _ _ _ _ _ _ h c.at-pair.result at, c.in_ok-test_pair.ensures.cost)

pub loop-i-preserved : goal.loop-i-preserved
loop-i-preserved g c = record {
  kept = c.in_ok-test_pair.ensures.keeps.content ∙ c.loop-i.invariant.kept;
  beside = c.in_ok-test_pair.ensures.keeps.beside ∙ c.loop-i.invariant.beside;
  still = c.in_ok-test_pair.ensures.keeps.cause ∙ c.loop-i.invariant.still;
  looked = omega (arith, c.in_ok-test_pair.ensures.looked, c.loop-i.invariant.looked);
  progress = λ m e.
      let at : slice_get c.loop-i.found c.loop-i.i ≡ Some c.at-pair.result = c.at-pair.ensures in
      search_turn c.at-pair.result (c.requires m e) c.at-pair.ensures (c.loop-i.invariant.progress m e)
      (c.in_ok-test_pair.ensures.told m (c.loop-i.invariant.kept ∙ e))
      (elim c.match-branch-3.branch [
        | in-Missing w ↦ notes _ _ _ _ _ w.in-Missing.is ((_, w.missing-is, w.lesser.ensures), w.unfit-is)
        | in-Unfit w ↦ notes _ _ _ _ _ w.in-Unfit.is (w.missing-is, (_, w.unfit-is, w.lesser-in-Unfit.ensures))
        | in-Fit+in_ok-follow-in-Fit w ↦ notes _ _ _ _ _ w.in-Fit.is (w.missing-is, w.unfit-is)
      ])
      (elim c.match-branch-3.branch [
        | in-Missing w ↦ appends _ _ w.in-Missing.is w.found-is
        | in-Unfit w ↦ appends _ _ w.in-Unfit.is w.found-is
        | in-Fit+in_ok-follow-in-Fit w ↦ appends _ _ w.in-Fit.is (extends_along refl (sym w.found-is) w.in_ok-follow-in-Fit.ensures)
      ]);
}

pub returns-clause-told : goal.returns-clause-told
returns-clause-told g c = λ m e.
    let queue = c.loop-i.found in
    let whole : take c.loop-i.i queue ≡ queue = take_all c.loop-i.i queue (omega arith) in
    let h = c.loop-i.invariant.progress m e in
    subst (λ (answer : Closure). IsClosure m c.args.roots.now answer) (sym c.answer.ensures)
    (closure_answer m c.args.roots.now queue (covers_beyond (c.requires m e) h.spread whole) c.loop-i.missing c.loop-i.unfit
    (g.met.O.Objects.named c.args.objects.now m e) (subst (λ (done : List Root). Tally m done c.loop-i.missing c.loop-i.unfit) whole h.tally))

pub returns-clause-reach : goal.returns-clause-reach
returns-clause-reach g c = λ m e.
    let queue = c.loop-i.found in
    let whole : take c.loop-i.i queue ≡ queue = take_all c.loop-i.i queue (omega arith) in
    spread_all (c.loop-i.invariant.progress m e).spread whole

pub returns-clause-cost : goal.returns-clause-cost
returns-clause-cost g c = λ m e names fit cover cover_fit.
    let h = c.loop-i.invariant.progress m e in
    omega (arith, cost_within m _ _ _ _ _ _ _ _ _ h names fit cover cover_fit, h.within)

pub returns-clause-once : goal.returns-clause-once
returns-clause-once g c = λ m e names pairs cover cover_pairs.
    cost_once m _ _ _ _ _ _ _ _ _ (c.loop-i.invariant.progress m e) c.len.ensures.differ names pairs cover cover_pairs
