use Rattle.std.proofs.Common.{◌≡◌, take, ◌∙◌, arith}
use Rattle.std.proofs.lemmas.List.{take_all}
use Rattle.commit_graph.proofs.LookUps.{looks_turn, looks_all, looks_more}
use Rattle.commit_graph.proofs.Spread.{spread_follows, spread_end}
use Rattle.commit_graph.proofs.reaching.walk.Goals as goal

pub loop-i-preserved : goal.loop-i-preserved
loop-i-preserved g c = record {
  kept = c.in_ok-follow_links.ensures.keeps.content ∙ c.loop-i.invariant.kept;
  beside = c.in_ok-follow_links.ensures.keeps.beside ∙ c.loop-i.invariant.beside;
  still = c.in_ok-follow_links.ensures.keeps.cause ∙ c.loop-i.invariant.still;
  looked = λ m e.
      looks_turn _ _ _ c.loop-i.i c.at-pair.result c.at-pair.ensures (c.in_ok-follow_links.ensures.told m (c.loop-i.invariant.kept ∙ e)).grown
      c.in_ok-follow_links.ensures.looked (c.loop-i.invariant.looked m e);
  spread = λ m e.
      spread_follows c.loop-i.i c.at-pair.result c.at-pair.ensures (c.loop-i.invariant.spread m e)
      (c.in_ok-follow_links.ensures.told m (c.loop-i.invariant.kept ∙ e));
}

pub returns-clause-told : goal.returns-clause-told
returns-clause-told g c = λ m e pair.
    let all : take c.loop-i.i c.loop-i.found ≡ c.loop-i.found = take_all c.loop-i.i c.loop-i.found (omega arith) in
    let h = c.loop-i.invariant.spread m e in
    (λ k. h.sound pair k, λ r. spread_end h all pair r)

pub returns-in_err-follow_links-clause-looked : goal.returns-in_err-follow_links-clause-looked
returns-in_err-follow_links-clause-looked g c = λ m e pairs cover.
    looks_more _ _ _ c.loop-i.i c.at-pair.result pairs c.at-pair.ensures c.in_err-follow_links.ensures.looked (c.loop-i.invariant.looked m e)
    (c.loop-i.invariant.spread m e) c.len.ensures.differ cover

pub returns-clause-looked : goal.returns-clause-looked
returns-clause-looked g c = λ m e pairs cover.
    looks_all _ _ c.loop-i.i pairs (c.loop-i.invariant.looked m e) (c.loop-i.invariant.spread m e) c.len.ensures.differ cover
