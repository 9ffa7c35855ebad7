use Rattle.git_object.proofs.Lines.{parents_more}
use Rattle.git_object.proofs.commit.behind_parents.Goals as goal

pub reading-preserved : goal.reading-preserved
reading-preserved c =
    let found = c.in-Some.ensures.found in
    parents_more c.args.bytes.now c.reading.rest.now c.in-Some.more.now c.in-Some.field-0-0 c.reading.invariant found.0 found.1
