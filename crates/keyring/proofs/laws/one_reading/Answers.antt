use Rattle.keyring.proofs.Files.{one_reading}
use Rattle.keyring.proofs.laws.one_reading.Goals as goal

pub returns : goal.returns
returns c = one_reading
