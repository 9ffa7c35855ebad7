use Rattle.std.proofs.Common.{length, ap, rules}
use Rattle.git_object.specs.Views.{parents_of}
use Rattle.git_object.proofs.Lines.{parents_first, parents_none}
use Rattle.git_object.proofs.Steps.{none_left}
use Rattle.git_object.proofs.commit.ParentsIterator.next.Goals as goal

pub returns-in_err-parent-clause-steps : goal.returns-in_err-parent-clause-steps
returns-in_err-parent-clause-steps c =
    none_left parents_of c.args.self.now c.from_residual.result c.from_residual.ensures
    (parents_none c.args.self.now.rest.now c.in_err-parent.ensures.none)

pub returns-clause-steps : goal.returns-clause-steps
returns-clause-steps c =
    let found = c.in_ok-parent.ensures.found in
    parents_first c.args.self.now.rest.now c.in_ok-parent.rest.now c.in_ok-parent.parent found.0 found.1

pub returns-clause-goes : goal.returns-clause-goes
returns-clause-goes c =
    let shorter = ap length (returns-clause-steps c) in
    search rules
