use Rattle.canonical_head.proofs.heads.head.Goals as goal

pub returns-clause-told : goal.returns-clause-told
returns-clause-told g c = λ m e. c.in_ok-head.ensures.told m (c.in_ok-table.ensures.told m e)
