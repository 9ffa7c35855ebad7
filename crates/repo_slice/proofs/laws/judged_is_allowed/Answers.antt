use Rattle.repo_slice.proofs.OfferedAgain.{allowed_again}
use Rattle.repo_slice.proofs.laws.judged_is_allowed.Goals as goal

pub returns : goal.returns
returns c = λ objects keyring state offer scope judged is. allowed_again objects keyring state offer scope judged is
