use Rattle.git_object.proofs.SpellingLaws.{breaks_refused}
use Rattle.git_object.proofs.laws.what_breaks_is_refused.Goals as goal

pub returns : goal.returns
returns c = breaks_refused
