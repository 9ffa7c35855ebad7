use Rattle.std.proofs.Common.{◌≡◌, List, take, refl, sym, ap, ◌∙◌, arith}
use Rattle.std.specs.Prelude.{slice_get}
use Rattle.std.proofs.lemmas.List.{take_all}
use Rattle.commit_graph.specs.declared.root.Root.{Root}
use Rattle.commit_graph.proofs.Adding.{extends_nothing}
use Rattle.commit_graph.proofs.Spread.{spread_start, spread_follows, spread_all}
use Rattle.commit_graph.proofs.plain.reached_pairs.Goals as goal

pub loop-i-init : goal.loop-i-init
loop-i-init g c = record {
  kept = refl;
  beside = refl;
  still = refl;
  spread = λ m e. spread_start (extends_nothing c.in_ok-list.ensures.items);
}

pub loop-i-preserved : goal.loop-i-preserved
loop-i-preserved g c = record {
  kept = c.in_ok-add_links_of.ensures.keeps.content ∙ c.loop-i.invariant.kept;
  beside = c.in_ok-add_links_of.ensures.keeps.beside ∙ c.loop-i.invariant.beside;
  still = c.in_ok-add_links_of.ensures.keeps.cause ∙ c.loop-i.invariant.still;
  spread = λ m e.
      spread_follows c.loop-i.i c.pair_at-pair.result (ap (λ (pairs : List Root). slice_get pairs c.loop-i.i) (sym c.deref.ensures.value) ∙ c.pair_at-pair.ensures) (c.loop-i.invariant.spread m e)
      (c.in_ok-add_links_of.ensures.told m (c.loop-i.invariant.kept ∙ e));
}

pub returns-clause-told : goal.returns-clause-told
returns-clause-told g c = λ m e.
    let all : take c.loop-i.i c.loop-i.list.items ≡ c.loop-i.list.items = take_all c.loop-i.i c.loop-i.list.items (omega arith) in
    spread_all (c.loop-i.invariant.spread m e) all
