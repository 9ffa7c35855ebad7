use Rattle.fetch_stages.proofs.OneCut.{one_cut}
use Rattle.fetch_stages.proofs.laws.one_cut.Goals as goal

pub returns : goal.returns
returns c = one_cut
