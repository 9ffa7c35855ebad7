use Rattle.std.proofs.Common.{◌≡◌, ◌+◌, List, ◌∷◌, [], length, take, refl, sym, ap, subst, ◌∙◌, arith, length-append}
use Rattle.std.proofs.lemmas.List.{length-take, take_all}
use Rattle.std.specs.Prelude.{Contains, slice_get}
use Rattle.rad_base.specs.declared.names.Oid.{Oid}
use Rattle.rad_base.specs.Lists.{AllDiffer}
use Rattle.commit_graph.proofs.LookUps.{looks_turn}
use Rattle.commit_graph.proofs.Spread.{spread_follows, spread_start}
use Rattle.commit_graph.specs.Lists.{Extends}
use Rattle.canonical_head.proofs.AncestryWalks.{below_none, below_turn, found_many, front_differ, front_kept, front_tells, no_rows, parents_follow, rows_tell, rows_turn}
use Rattle.canonical_head.specs.Ancestries.{RowsTell}
use Rattle.canonical_head.proofs.ancestry.ancestry_of.Goals as goal

pub loop-i-init : goal.loop-i-init
loop-i-init g c =
    let commits = c.number_all.new.self in
    let numbered = c.in_ok-number_all.ensures in
    record {
      kept = refl;
      beside = refl;
      still = refl;
      looked = λ m e. omega arith;
      front = λ tip has.
          subst (λ (xs : List Oid). Contains xs tip) (sym (take_all c.len-count.result commits (omega (arith, c.len-count.ensures.counted))))
          (numbered.grown.has tip has);
      counted = omega (arith, c.len-count.ensures.counted);
      turns = ap length c.new-parents.ensures;
      within = omega arith;
      below = below_none commits c.new-parents.result c.new-parents.ensures;
      rows = λ m e. no_rows m commits c.new-parents.result c.new-parents.ensures;
      spread = λ m e. spread_start (subst (λ (old : List Oid). Extends old c.args.tips.now commits) c.new-commits.ensures numbered.grown);
    }

pub returns-in_err-add_parents-clause-looked : goal.returns-in_err-add_parents-clause-looked
returns-in_err-add_parents-clause-looked g c = λ m e commits cover.
    omega (
      arith,
      c.in_err-add_parents.ensures.looked,
      c.loop-i.invariant.looked m e,
      length-take c.loop-i.i c.loop-i.commits,
      c.loop-i-test.true,
      c.len.ensures.counted,
      found_many m c.args.tips.now commits (c.loop-i.invariant.spread m e) c.len.ensures.differ cover,
    )

pub loop-i-preserved : goal.loop-i-preserved
loop-i-preserved g c =
    let before = c.loop-i.invariant in
    let added = c.in_ok-add_parents.ensures.told in
    let grown = added.numbered.grown in
    let longer : length c.add_parents.new.commits ≡ length c.loop-i.commits + length grown.more = ap length grown.is ∙ length-append c.loop-i.commits grown.more in
    record {
      kept = c.in_ok-add_parents.ensures.keeps.content ∙ before.kept;
      beside = c.in_ok-add_parents.ensures.keeps.beside ∙ before.beside;
      still = c.in_ok-add_parents.ensures.keeps.cause ∙ before.still;
      looked = λ m e. looks_turn _ _ _ c.loop-i.i c.at-oid.result c.at-oid.ensures grown c.in_ok-add_parents.ensures.looked (before.looked m e);
      front = λ tip has. subst (λ (xs : List Oid). Contains xs tip) (sym (front_kept c.len-count.result before.counted grown)) (before.front tip has);
      counted = omega (arith, before.counted, longer);
      turns = omega (arith, ap length added.is, length-append c.loop-i.parents (added.row ∷ []), before.turns);
      within = omega (arith, c.loop-i-test.true, c.len.ensures.counted, longer);
      below = below_turn added before.below;
      rows = λ m e. rows_turn m (before.kept ∙ e) (ap (slice_get c.loop-i.commits) before.turns ∙ c.at-oid.ensures) added (before.rows m e);
      spread = λ m e. spread_follows c.loop-i.i c.at-oid.result c.at-oid.ensures (before.spread m e) (parents_follow m (before.kept ∙ e) added);
    }

pub returns-clause-sound : goal.returns-clause-sound
returns-clause-sound g c =
    let commits = c.loop-i.commits in
    let tips : c.truncate.new.self.items ≡ take c.len-count.result commits = ◌∙◌ {A = List Oid} c.truncate.ensures.items (ap (take c.len-count.result) c.into_vec-different.ensures) in
    record {
      differ = subst AllDiffer (sym tips) (front_differ commits c.len-count.result c.len.ensures.differ);
      counted = omega (arith, ap length tips, length-take c.len-count.result commits, c.loop-i.invariant.turns, c.loop-i-test.false, c.len.ensures.counted);
      inside = λ a b next. omega (arith, c.loop-i.invariant.below a b next, c.loop-i.invariant.turns, c.loop-i-test.false, c.len.ensures.counted);
    }

pub returns-clause-told : goal.returns-clause-told
returns-clause-told g c = λ m e.
    let commits = c.loop-i.commits in
    let tips : c.truncate.new.self.items ≡ take c.len-count.result commits = ◌∙◌ {A = List Oid} c.truncate.ensures.items (ap (take c.len-count.result) c.into_vec-different.ensures) in
    let many : length c.loop-i.parents ≡ length commits = omega (arith, c.loop-i.invariant.turns, c.loop-i.invariant.within, c.loop-i-test.false, c.len.ensures.counted) in
    record {
      has = λ tip among. subst (λ (xs : List Oid). Contains xs tip) (sym tips) (c.loop-i.invariant.front tip among);
      told = subst (RowsTell m c.loop-i.parents) (sym tips)
          (front_tells m c.loop-i.parents commits c.len-count.result
          (rows_tell m commits c.loop-i.parents many (c.loop-i.invariant.rows m e) c.len.ensures.differ));
    }

pub returns-clause-looked : goal.returns-clause-looked
returns-clause-looked g c = λ m e commits cover.
    omega (
      arith,
      c.loop-i.invariant.looked m e,
      length-take c.loop-i.i c.loop-i.commits,
      found_many m c.args.tips.now commits (c.loop-i.invariant.spread m e) c.len.ensures.differ cover,
    )
