use Rattle.fetch_stages.proofs.SomeJob.{some_bundle_job, some_job}
use Rattle.fetch_stages.proofs.laws.bytes_have_a_job.Goals as goal

pub returns-clause-job : goal.returns-clause-job
returns-clause-job c = some_job

pub returns-clause-bundle : goal.returns-clause-bundle
returns-clause-bundle c = some_bundle_job
