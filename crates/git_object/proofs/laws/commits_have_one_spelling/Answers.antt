use Rattle.git_object.proofs.SpellingLaws.{commit_spelling}
use Rattle.git_object.proofs.laws.commits_have_one_spelling.Goals as goal

pub returns : goal.returns
returns c = commit_spelling
