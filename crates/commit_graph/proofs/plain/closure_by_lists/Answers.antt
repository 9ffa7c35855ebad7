use Rattle.std.proofs.Common.{◌≡◌, List, ◌↔◌, take, sym, subst, ◌∙◌, arith}
use Rattle.std.specs.Prelude.{Contains}
use Rattle.std.proofs.lemmas.List.{take_all}
use Rattle.commit_graph.specs.declared.root.Root.{Root}
use Rattle.commit_graph.specs.declared.answer.Closure.{Closure}
use Rattle.commit_graph.specs.Closures.{IsClosure, IsReached}
use Rattle.commit_graph.proofs.ClosureTurns.{Tally, tally_start, tally_more, notes, covers_all, closure_answer}
use Rattle.commit_graph.proofs.plain.closure_by_lists.Goals as goal
use Rattle.commit_graph.proofs.plain.closure_by_lists.Goals.{in-Missing, in-Unfit, in-Fit}

pub loop-pair-init : goal.loop-pair-init
loop-pair-init g c = record {
  kept = c.in_ok-pairs.ensures.keeps.content;
  beside = c.in_ok-pairs.ensures.keeps.beside;
  still = c.in_ok-pairs.ensures.keeps.cause;
  tally = λ m e. tally_start m;
}

pub loop-pair-preserved : goal.loop-pair-preserved
loop-pair-preserved g c = record {
  kept = c.in_ok-look.ensures.keeps.content ∙ c.loop-pair.invariant.kept;
  beside = c.in_ok-look.ensures.keeps.beside ∙ c.loop-pair.invariant.beside;
  still = c.in_ok-look.ensures.keeps.cause ∙ c.loop-pair.invariant.still;
  tally = λ m e.
      tally_more c.deref-pair-items.result.now c.loop-pair.pair-index _ c.in_ok-look.field-0 c.loop-pair-test.true
      (c.in_ok-look.ensures.told m (c.loop-pair.invariant.kept ∙ e)) (c.loop-pair.invariant.tally m e)
      (elim c.match-branch-3.branch [
        | in-Missing w ↦ notes _ _ _ _ _ w.in-Missing.is ((_, w.missing-is, w.lesser.ensures), w.unfit-is)
        | in-Unfit w ↦ notes _ _ _ _ _ w.in-Unfit.is (w.missing-is, (_, w.unfit-is, w.lesser-in-Unfit.ensures))
        | in-Fit w ↦ notes _ _ _ _ _ w.in-Fit.is (w.missing-is, w.unfit-is)
      ]);
}

pub returns-clause-told : goal.returns-clause-told
returns-clause-told g c = λ m e.
    let pairs = c.deref-pair-items.result.now in
    let whole : take c.loop-pair.pair-index pairs ≡ pairs = take_all c.loop-pair.pair-index pairs (omega arith) in
    let reached : (p : Root) → Contains pairs p ↔ IsReached m c.args.roots.now p = λ p.
    subst (λ (xs : List Root). Contains xs p ↔ IsReached m c.args.roots.now p) (sym c.deref-pair-items.ensures.value) (c.in_ok-pairs.ensures.told m e p) in
    subst (λ (answer : Closure). IsClosure m c.args.roots.now answer) (sym c.answer.ensures)
    (closure_answer m c.args.roots.now pairs (covers_all reached) c.loop-pair.missing c.loop-pair.unfit (g.met.O.Objects.named c.args.objects.now m e)
    (subst (λ (done : List Root). Tally m done c.loop-pair.missing c.loop-pair.unfit) whole (c.loop-pair.invariant.tally m e)))
