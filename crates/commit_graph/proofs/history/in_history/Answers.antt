use Rattle.std.proofs.Common.{◌≡◌, take, refl, sym, ◌∙◌, arith}
use Rattle.std.proofs.lemmas.List.{take_all}
use Rattle.std.proofs.lemmas.Bool.{false≢true}
use Rattle.rad_base.proofs.Members.{contains_at}
use Rattle.commit_graph.specs.declared.root.Root.{Root}
use Rattle.commit_graph.specs.Pairs.{as_commit}
use Rattle.std.specs.Prelude.{map}
use Rattle.commit_graph.proofs.LookUps.{looks_turn, looks_all, looks_more, history_cover, commits_many}
use Rattle.commit_graph.proofs.Adding.{take_grown}
use Rattle.commit_graph.proofs.HistoryWalks.{history_found, history_none}
use Rattle.commit_graph.proofs.Spread.{spread_follows, done_turn}
use Rattle.commit_graph.proofs.history.in_history.Goals as goal

pub returns-then-is_named-clause-told : goal.returns-then-is_named-clause-told
returns-then-is_named-clause-told g c = λ m e. (
  λ _. history_found m c.args.old.now c.args.new.now c.at-pair.result (c.loop-i.invariant.spread m e)
      (contains_at c.loop-i.found c.loop-i.i c.at-pair.result c.at-pair.ensures) (c.is_named.ensures.0 c.if-is_named.true),
  λ _. refl,
)

pub loop-i-preserved : goal.loop-i-preserved
loop-i-preserved g c = record {
  kept = c.in_ok-follow_parents.ensures.keeps.content ∙ c.loop-i.invariant.kept;
  beside = c.in_ok-follow_parents.ensures.keeps.beside ∙ c.loop-i.invariant.beside;
  still = c.in_ok-follow_parents.ensures.keeps.cause ∙ c.loop-i.invariant.still;
  looked = λ m e.
      looks_turn _ _ _ c.loop-i.i c.at-pair.result c.at-pair.ensures (c.in_ok-follow_parents.ensures.told m (c.loop-i.invariant.kept ∙ e)).grown
      c.in_ok-follow_parents.ensures.looked (c.loop-i.invariant.looked m e);
  spread = λ m e.
      spread_follows c.loop-i.i c.at-pair.result c.at-pair.ensures (c.loop-i.invariant.spread m e)
      (c.in_ok-follow_parents.ensures.told m (c.loop-i.invariant.kept ∙ e));
  other = λ m e.
      let follows = c.in_ok-follow_parents.ensures.told m (c.loop-i.invariant.kept ∙ e) in
      done_turn (λ (q : Root). q.oid ≡ c.args.old.now → ⊥) (take c.loop-i.i c.loop-i.found) (c.loop-i.invariant.other m e)
      (λ same. absurd (false≢true (sym c.if-is_named.false ∙ c.is_named.ensures.1 same)))
      (take_grown c.loop-i.i c.at-pair.ensures follows.grown);
}

pub returns-clause-told : goal.returns-clause-told
returns-clause-told g c = λ m e.
    let all : take c.loop-i.i c.loop-i.found ≡ c.loop-i.found = take_all c.loop-i.i c.loop-i.found (omega arith) in (
      λ h. absurd (false≢true h),
      λ r. absurd (history_none m c.args.old.now c.args.new.now (c.loop-i.invariant.spread m e) all (c.loop-i.invariant.other m e) r),
    )

pub returns-in_err-follow_parents-clause-looked : goal.returns-in_err-follow_parents-clause-looked
returns-in_err-follow_parents-clause-looked g c = λ m e commits cover.
    omega (
      arith,
      commits_many commits,
      looks_more _ _ _ c.loop-i.i c.at-pair.result (map as_commit commits) c.at-pair.ensures c.in_err-follow_parents.ensures.looked
          (c.loop-i.invariant.looked m e) (c.loop-i.invariant.spread m e) c.len.ensures.differ (history_cover commits cover),
    )

pub returns-clause-looked : goal.returns-clause-looked
returns-clause-looked g c = λ m e commits cover.
    omega (
      arith,
      commits_many commits,
      looks_all _ _ c.loop-i.i (map as_commit commits) (c.loop-i.invariant.looked m e)
          (c.loop-i.invariant.spread m e) c.len.ensures.differ (history_cover commits cover),
    )

pub returns-then-is_named-clause-looked : goal.returns-then-is_named-clause-looked
returns-then-is_named-clause-looked g c = λ m e commits cover.
    omega (
      arith,
      commits_many commits,
      looks_all _ _ c.loop-i.i (map as_commit commits) (c.loop-i.invariant.looked m e)
          (c.loop-i.invariant.spread m e) c.len.ensures.differ (history_cover commits cover),
    )
