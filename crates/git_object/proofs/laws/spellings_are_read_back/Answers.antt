use Rattle.std.proofs.Common.{None}
use Rattle.git_object.proofs.Commits.{commit_reads}
use Rattle.git_object.proofs.Tags.{tag_reads}
use Rattle.git_object.proofs.TreeTexts.{tree_reads}
use Rattle.git_object.proofs.laws.spellings_are_read_back.Goals as goal

pub returns-clause-tree : goal.returns-clause-tree
returns-clause-tree c = tree_reads None

pub returns-clause-commit : goal.returns-clause-commit
returns-clause-commit c = commit_reads

pub returns-clause-tag : goal.returns-clause-tag
returns-clause-tag c = tag_reads
