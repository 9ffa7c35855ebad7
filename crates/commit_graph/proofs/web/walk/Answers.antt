use Rattle.std.proofs.Common.{List, true, refl, sym, subst, ◌∙◌, arith}
use Rattle.std.specs.Prelude.{map}
use Rattle.std.specs.BTreeSet.{BTreeSet, Updates}
use Rattle.std.proofs.lemmas.List.{take_all}
use Rattle.commit_graph.specs.declared.backward.Backward.{Backward}
use Rattle.commit_graph.specs.declared.look.Looked.{Looked}
use Rattle.commit_graph.specs.declared.root.Root.{Root}
use Rattle.commit_graph.specs.declared.web.Web.{Web}
use Rattle.commit_graph.specs.Lists.{Extends}
use Rattle.commit_graph.specs.Pairs.{pair_of}
use Rattle.commit_graph.specs.Looks.{Shows}
use Rattle.commit_graph.proofs.AddBack.{LinksAdded}
use Rattle.commit_graph.proofs.Adding.{extends_along, extends_same}
use Rattle.commit_graph.proofs.LookUps.{looks_turn, looks_all, looks_more}
use Rattle.commit_graph.proofs.PairOrder.{pair_cmp}
use Rattle.commit_graph.proofs.WebTurns.{gathering_start, gathering_turn, gathering_end, gathers_missing, gathers_unfit, gathers_fit}
use Rattle.commit_graph.proofs.web.walk.Goals as goal
use Rattle.commit_graph.proofs.web.walk.Goals.{in-Missing+in_ok-insert-in-Missing, in-Unfit+in_ok-insert-in-Unfit, in-Fit+in_ok-follow-in-Fit+in_ok-add_links-in-Fit}

pub loop-i-init : goal.loop-i-init
loop-i-init g c = record {
  kept = refl;
  beside = refl;
  still = refl;
  looked = λ m e. omega arith;
  gathering = λ m e.
      gathering_start m (record { back = c.new-back.result; missing = c.new-missing.result; unfit = c.new-unfit.result })
      (subst (λ (none : List Root). Extends none c.args.roots.now c.extend.new.self) c.new-found.ensures c.in_ok-extend.ensures)
      c.new-back.ensures c.new-missing.ensures.empty c.new-unfit.ensures.empty;
}

pub loop-i-preserved : goal.loop-i-preserved
loop-i-preserved g c =
    let x = c.at-pair.result in
    let old : Web = record { back = c.loop-i.back; missing = c.loop-i.missing; unfit = c.loop-i.unfit } in
    let new : Web = record { back = c.match-branch-3.back; missing = c.match-branch-3.missing; unfit = c.match-branch-3.unfit } in
    record {
      kept = c.in_ok-look.ensures.keeps.content ∙ c.loop-i.invariant.kept;
      beside = c.in_ok-look.ensures.keeps.beside ∙ c.loop-i.invariant.beside;
      still = c.in_ok-look.ensures.keeps.cause ∙ c.loop-i.invariant.still;
      looked = λ m e. elim c.match-branch-3.branch [
        | in-Missing+in_ok-insert-in-Missing w ↦ looks_turn _ _ _ c.loop-i.i x c.at-pair.ensures
            (extends_same w.found-is) c.in_ok-look.ensures.looked (c.loop-i.invariant.looked m e)
        | in-Unfit+in_ok-insert-in-Unfit w ↦ looks_turn _ _ _ c.loop-i.i x c.at-pair.ensures
            (extends_same w.found-is) c.in_ok-look.ensures.looked (c.loop-i.invariant.looked m e)
        | in-Fit+in_ok-follow-in-Fit+in_ok-add_links-in-Fit w ↦ looks_turn _ _ _ c.loop-i.i x c.at-pair.ensures
            (extends_along refl (sym w.found-is) w.in_ok-follow-in-Fit.ensures) c.in_ok-look.ensures.looked (c.loop-i.invariant.looked m e)
      ];
      gathering = λ m e.
          let told : Shows m x c.in_ok-look.field-0 = c.in_ok-look.ensures.told m (c.loop-i.invariant.kept ∙ e) in
          let shows = λ (looked : Looked). Shows m x looked in
          gathering_turn c.loop-i.i x old new c.at-pair.ensures (c.loop-i.invariant.gathering m e)
          (elim c.match-branch-3.branch [
            | in-Missing+in_ok-insert-in-Missing w ↦ gathers_missing old new (subst shows w.in-Missing.is told) w.found-is w.back-is
                (subst (λ (set : BTreeSet Root). Updates pair_cmp c.loop-i.missing set x true) (sym w.missing-is)
                w.in_ok-insert-in-Missing.ensures.updates) w.unfit-is
            | in-Unfit+in_ok-insert-in-Unfit w ↦ gathers_unfit old new (subst shows w.in-Unfit.is told) w.found-is w.back-is w.missing-is
                (subst (λ (set : BTreeSet Root). Updates pair_cmp c.loop-i.unfit set x true) (sym w.unfit-is) w.in_ok-insert-in-Unfit.ensures.updates)
            | in-Fit+in_ok-follow-in-Fit+in_ok-add_links-in-Fit w ↦ gathers_fit old new (subst shows w.in-Fit.is told)
                (extends_along refl (sym w.found-is) w.in_ok-follow-in-Fit.ensures)
                (subst (λ (back : Backward). LinksAdded c.loop-i.back x (map pair_of w.in-Fit.links.now) back) (sym w.back-is) w.in_ok-add_links-in-Fit.ensures)
                w.missing-is w.unfit-is
          ]);
    }

pub returns-clause-told : goal.returns-clause-told
returns-clause-told g c = λ m e.
    gathering_end c.loop-i.i (record { back = c.loop-i.back; missing = c.loop-i.missing; unfit = c.loop-i.unfit })
    (take_all c.loop-i.i c.loop-i.found (omega arith)) (c.loop-i.invariant.gathering m e)

pub returns-in_err-look-clause-looked : goal.returns-in_err-look-clause-looked
returns-in_err-look-clause-looked g c = λ m e pairs cover.
    looks_more _ _ _ c.loop-i.i c.at-pair.result pairs c.at-pair.ensures c.in_err-look.ensures.looked (c.loop-i.invariant.looked m e)
    (c.loop-i.invariant.gathering m e).spread c.len.ensures.differ cover

pub returns-in_err-insert-in-Missing-clause-looked : goal.returns-in_err-insert-in-Missing-clause-looked
returns-in_err-insert-in-Missing-clause-looked g c = λ m e pairs cover.
    looks_more _ _ _ c.loop-i.i c.at-pair.result pairs c.at-pair.ensures c.in_ok-look.ensures.looked (c.loop-i.invariant.looked m e)
    (c.loop-i.invariant.gathering m e).spread c.len.ensures.differ cover

pub returns-in_err-insert-in-Unfit-clause-looked : goal.returns-in_err-insert-in-Unfit-clause-looked
returns-in_err-insert-in-Unfit-clause-looked g c = λ m e pairs cover.
    looks_more _ _ _ c.loop-i.i c.at-pair.result pairs c.at-pair.ensures c.in_ok-look.ensures.looked (c.loop-i.invariant.looked m e)
    (c.loop-i.invariant.gathering m e).spread c.len.ensures.differ cover

pub returns-in_err-follow-in-Fit-clause-looked : goal.returns-in_err-follow-in-Fit-clause-looked
returns-in_err-follow-in-Fit-clause-looked g c = λ m e pairs cover.
    looks_more _ _ _ c.loop-i.i c.at-pair.result pairs c.at-pair.ensures c.in_ok-look.ensures.looked (c.loop-i.invariant.looked m e)
    (c.loop-i.invariant.gathering m e).spread c.len.ensures.differ cover

pub returns-in_err-add_links-in-Fit-clause-looked : goal.returns-in_err-add_links-in-Fit-clause-looked
returns-in_err-add_links-in-Fit-clause-looked g c = λ m e pairs cover.
    looks_more _ _ _ c.loop-i.i c.at-pair.result pairs c.at-pair.ensures c.in_ok-look.ensures.looked (c.loop-i.invariant.looked m e)
    (c.loop-i.invariant.gathering m e).spread c.len.ensures.differ cover

pub returns-clause-looked : goal.returns-clause-looked
returns-clause-looked g c = λ m e pairs cover.
    looks_all _ _ c.loop-i.i pairs (c.loop-i.invariant.looked m e) (c.loop-i.invariant.gathering m e).spread c.len.ensures.differ cover
