use Rattle.fetch_stages.proofs.JobRuns.{one_bundle_job, one_bundle_puts}
use Rattle.fetch_stages.proofs.laws.one_bundle_job.Goals as goal

pub returns-clause-one : goal.returns-clause-one
returns-clause-one c = one_bundle_job

pub returns-clause-puts : goal.returns-clause-puts
returns-clause-puts c = one_bundle_puts
