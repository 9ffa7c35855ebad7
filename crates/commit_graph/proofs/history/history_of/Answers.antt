use Rattle.std.proofs.Common.{◌≡◌, take, ◌∙◌, arith}
use Rattle.std.proofs.lemmas.List.{take_all}
use Rattle.commit_graph.specs.Pairs.{as_commit}
use Rattle.std.specs.Prelude.{map}
use Rattle.commit_graph.proofs.LookUps.{looks_turn, looks_all, looks_more, history_cover, commits_many}
use Rattle.commit_graph.proofs.Spread.{spread_follows, spread_all}
use Rattle.commit_graph.proofs.history.history_of.Goals as goal

pub loop-i-preserved : goal.loop-i-preserved
loop-i-preserved g c = record {
  kept = c.in_ok-follow_parents.ensures.keeps.content ∙ c.loop-i.invariant.kept;
  beside = c.in_ok-follow_parents.ensures.keeps.beside ∙ c.loop-i.invariant.beside;
  still = c.in_ok-follow_parents.ensures.keeps.cause ∙ c.loop-i.invariant.still;
  looked = λ m e.
      looks_turn _ _ _ c.loop-i.i c.at-pair.result c.at-pair.ensures (c.in_ok-follow_parents.ensures.told m (c.loop-i.invariant.kept ∙ e)).grown
      c.in_ok-follow_parents.ensures.looked (c.loop-i.invariant.looked m e);
  spread = λ m e.
      spread_follows c.loop-i.i c.at-pair.result c.at-pair.ensures (c.loop-i.invariant.spread m e)
      (c.in_ok-follow_parents.ensures.told m (c.loop-i.invariant.kept ∙ e));
}

pub returns-clause-told : goal.returns-clause-told
returns-clause-told g c = λ m e.
    let all : take c.loop-i.i c.loop-i.found ≡ c.loop-i.found = take_all c.loop-i.i c.loop-i.found (omega arith) in
    λ old. spread_all (c.loop-i.invariant.spread m e) all (as_commit old)

pub returns-in_err-follow_parents-clause-looked : goal.returns-in_err-follow_parents-clause-looked
returns-in_err-follow_parents-clause-looked g c = λ m e commits cover.
    omega (
      arith,
      commits_many commits,
      looks_more _ _ _ c.loop-i.i c.at-pair.result (map as_commit commits) c.at-pair.ensures c.in_err-follow_parents.ensures.looked
          (c.loop-i.invariant.looked m e) (c.loop-i.invariant.spread m e) c.len.ensures.differ (history_cover commits cover),
    )

pub returns-clause-looked : goal.returns-clause-looked
returns-clause-looked g c = λ m e commits cover.
    omega (
      arith,
      commits_many commits,
      looks_all _ _ c.loop-i.i (map as_commit commits) (c.loop-i.invariant.looked m e)
          (c.loop-i.invariant.spread m e) c.len.ensures.differ (history_cover commits cover),
    )
