use Rattle.fetch_stages.proofs.JobRuns.{one_job, one_job_unjudged}
use Rattle.fetch_stages.proofs.laws.one_job.Goals as goal

pub returns-clause-one : goal.returns-clause-one
returns-clause-one c = one_job

pub returns-clause-unjudged : goal.returns-clause-unjudged
returns-clause-unjudged c = one_job_unjudged
