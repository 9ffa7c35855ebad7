use Rattle.canonical_head.proofs.FoundTips.{rows_among}
use Rattle.canonical_head.proofs.Rows.{rows_table}
use Rattle.canonical_head.proofs.table.table_of.Goals as goal

pub returns-clause-told : goal.returns-clause-told
returns-clause-told g c = λ m e.
    let tips = c.args.tips.now in
    let told = c.in_ok-ancestry.ensures.told m e in
    rows_table m tips tips _ (rows_among m tips c.in_ok-ancestry.ancestry c.in_ok-rows.rows told (c.in_ok-rows.ensures m tips told))
