use Rattle.fetch_stages.proofs.JobRuns.{fronts_enter_first, fronts_put_first}
use Rattle.fetch_stages.proofs.laws.fronts_of_jobs_enter_first.Goals as goal

pub returns-clause-entries : goal.returns-clause-entries
returns-clause-entries c = fronts_enter_first

pub returns-clause-puts : goal.returns-clause-puts
returns-clause-puts c = fronts_put_first
