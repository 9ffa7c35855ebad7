use Rattle.repo_slice.proofs.GrowingSlices.{good_grows}
use Rattle.repo_slice.proofs.laws.put_keeps_good.Goals as goal

pub returns : goal.returns
returns c = λ old new keyring state grows good. good_grows grows keyring state good
