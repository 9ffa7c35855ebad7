use Rattle.std.proofs.Common.{refl}
use Rattle.git_object.proofs.Written.{commit_more}
use Rattle.git_object.proofs.writing.write_commit.Goals as goal

pub loop-parent-preserved : goal.loop-parent-preserved
loop-parent-preserved c =
    commit_more c.args.tree.now c.args.parents.now c.loop-parent.parent-index c.loop-parent.bytes.items c.push_oid_line-in-loop-parent.new.bytes.items _ _
    c.loop-parent.invariant c.loop-parent-test.true refl c.in_ok-push_oid_line-2.ensures.oid c.in_ok-push_oid_line-2.ensures.line
