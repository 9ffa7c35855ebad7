use Rattle.announcements.proofs.Hearing.{hearing_makes_the_table}
use Rattle.announcements.proofs.laws.hearing_makes_the_table.Goals as goal

pub returns : goal.returns
returns c = hearing_makes_the_table
