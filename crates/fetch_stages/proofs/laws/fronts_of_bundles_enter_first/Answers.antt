use Rattle.fetch_stages.proofs.JobRuns.{bundle_fronts_enter_first, bundle_fronts_put_first}
use Rattle.fetch_stages.proofs.laws.fronts_of_bundles_enter_first.Goals as goal

pub returns-clause-entries : goal.returns-clause-entries
returns-clause-entries c = bundle_fronts_enter_first

pub returns-clause-puts : goal.returns-clause-puts
returns-clause-puts c = bundle_fronts_put_first
