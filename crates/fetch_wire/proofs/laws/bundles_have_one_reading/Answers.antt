use Rattle.fetch_wire.proofs.OneBundle.{one_bundle}
use Rattle.fetch_wire.proofs.laws.bundles_have_one_reading.Goals as goal

pub returns : goal.returns
returns c = one_bundle
