use Rattle.canonical_head.proofs.plain.head_by_histories.Goals as goal

pub returns-clause-told : goal.returns-clause-told
returns-clause-told g c = λ m e. c.in_ok-head.ensures.told m (c.in_ok-table.ensures.told m e)
