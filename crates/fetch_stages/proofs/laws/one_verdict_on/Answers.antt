use Rattle.fetch_stages.proofs.OneVerdicts.{one_verdict_on}
use Rattle.fetch_stages.proofs.laws.one_verdict_on.Goals as goal

pub returns : goal.returns
returns c = one_verdict_on
