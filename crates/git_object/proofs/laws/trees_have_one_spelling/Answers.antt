use Rattle.git_object.proofs.SpellingLaws.{tree_spelling}
use Rattle.git_object.proofs.laws.trees_have_one_spelling.Goals as goal

pub returns : goal.returns
returns c = tree_spelling
