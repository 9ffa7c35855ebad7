use Rattle.git_object.proofs.SpellingLaws.{tag_spelling}
use Rattle.git_object.proofs.laws.tags_have_one_spelling.Goals as goal

pub returns : goal.returns
returns c = tag_spelling
