use Rattle.announcements.proofs.Hearing.{raised_surpasses}
use Rattle.announcements.proofs.laws.raised_surpasses.Goals as goal

pub returns : goal.returns
returns c = raised_surpasses
