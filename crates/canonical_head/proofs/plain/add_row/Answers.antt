use Rattle.std.proofs.Common.{sym, ◌∙◌}
use Rattle.canonical_head.proofs.Rows.{rows_known, rows_added}
use Rattle.canonical_head.proofs.plain.add_row.Goals as goal

pub returns-then-contains_key-clause-told : goal.returns-then-contains_key-clause-told
returns-then-contains_key-clause-told g c = λ m e news h.
    rows_known m c.args.tips.now news c.args.rows.now c.args.tip.now (sym c.contains_key.ensures ∙ c.if-contains_key.true) h

pub returns-clause-told : goal.returns-clause-told
returns-clause-told g c = λ m e news h.
    let told = c.in_ok-history.ensures.told m e in
    rows_added m c.args.tips.now news c.args.rows.now c.insert.new.self c.args.tip.now c.in_ok-row.row c.in_ok-insert.ensures.updates.0
    (λ old has. (λ a. (told old).0 ((c.in_ok-row.ensures old has).0 a), λ b. (c.in_ok-row.ensures old has).1 ((told old).1 b))) h
