use Rattle.fetch_stages.proofs.JobRuns.{bundle_stops_stay, bundle_puts_stay}
use Rattle.fetch_stages.proofs.laws.stops_of_bundles_stay.Goals as goal

pub returns-clause-all : goal.returns-clause-all
returns-clause-all c = bundle_stops_stay

pub returns-clause-puts : goal.returns-clause-puts
returns-clause-puts c = bundle_puts_stay
