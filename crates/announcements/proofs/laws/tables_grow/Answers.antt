use Rattle.announcements.proofs.Hearing.{tables_grow}
use Rattle.announcements.proofs.laws.tables_grow.Goals as goal

pub returns : goal.returns
returns c = tables_grow
