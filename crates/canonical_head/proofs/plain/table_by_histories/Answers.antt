use Rattle.std.proofs.Common.{◌≡◌, List, take, subst, refl, ◌∙◌, arith}
use Rattle.std.proofs.lemmas.List.{take_all}
use Rattle.rad_base.specs.declared.names.Oid.{Oid}
use Rattle.canonical_head.specs.Tables.{AreRows}
use Rattle.canonical_head.proofs.Rows.{rows_none, rows_more, rows_table}
use Rattle.canonical_head.proofs.plain.table_by_histories.Goals as goal

pub loop-tip-init : goal.loop-tip-init
loop-tip-init g c = record {
  kept = refl;
  beside = refl;
  still = refl;
  filled = λ m e. rows_none m c.args.tips.now c.new-rows.result c.new-rows.ensures.empty;
}

pub loop-tip-preserved : goal.loop-tip-preserved
loop-tip-preserved g c = record {
  kept = c.in_ok-add_row.ensures.keeps.content ∙ c.loop-tip.invariant.kept;
  beside = c.in_ok-add_row.ensures.keeps.beside ∙ c.loop-tip.invariant.beside;
  still = c.in_ok-add_row.ensures.keeps.cause ∙ c.loop-tip.invariant.still;
  filled = λ m e.
      rows_more m c.args.tips.now c.args.tips.now c.loop-tip.tip-index _ c.add_row.new.rows c.loop-tip-test.true
      (c.in_ok-add_row.ensures.told m (c.loop-tip.invariant.kept ∙ e) (take c.loop-tip.tip-index c.args.tips.now) (c.loop-tip.invariant.filled m e));
}

pub returns-clause-told : goal.returns-clause-told
returns-clause-told g c = λ m e.
    let whole : take c.loop-tip.tip-index c.args.tips.now ≡ c.args.tips.now = take_all c.loop-tip.tip-index c.args.tips.now (omega arith) in
    rows_table m c.args.tips.now c.args.tips.now _ (subst (λ (xs : List Oid). AreRows m c.args.tips.now xs c.loop-tip.rows) whole (c.loop-tip.invariant.filled m e))
