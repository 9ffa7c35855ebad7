use Rattle.git_object.proofs.SpellingLaws.{links_are}
use Rattle.git_object.proofs.laws.links_are_the_values.Goals as goal

pub returns : goal.returns
returns c = links_are
