use Rattle.announcements.proofs.OneTable.{one_table}
use Rattle.announcements.proofs.laws.one_table.Goals as goal

pub returns : goal.returns
returns c = one_table
