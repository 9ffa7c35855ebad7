use Rattle.fetch_stages.proofs.JobRuns.{stops_stay, stops_stay_unjudged}
use Rattle.fetch_stages.proofs.laws.stops_of_jobs_stay.Goals as goal

pub returns-clause-all : goal.returns-clause-all
returns-clause-all c = stops_stay

pub returns-clause-unjudged : goal.returns-clause-unjudged
returns-clause-unjudged c = stops_stay_unjudged
