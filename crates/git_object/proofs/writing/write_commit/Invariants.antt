use Rattle.git_object.proofs.Written.{IsCommitWrittenTo}
use Rattle.git_object.proofs.writing.write_commit.Given as goal

abbrev pub invariant-loop-parent : goal.invariant-loop-parent
invariant-loop-parent l = IsCommitWrittenTo l.tree l.parents l.parent-index l.bytes.items
