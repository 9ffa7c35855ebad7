use Rattle.std.proofs.Common.{refl}
use Rattle.git_object.proofs.Commits.{broken_no_commit, broken_rest, commit_parts}
use Rattle.git_object.proofs.commit.read_commit.Goals as goal

pub returns-in_default-after-clause-bad : goal.returns-in_default-after-clause-bad
returns-in_default-after-clause-bad c =
    let tree = c.in-Some.ensures.found in
    broken_rest c.args.bytes.now c.in-Some.behind_tree.now c.behind_parents-rest.result.now c.in-Some.tree _ tree.0 tree.1
    c.behind_parents-rest.ensures (λ begins. c.in_default-after.ensures.none begins.0 begins.1) refl

pub returns-in_default-after-clause-exact : goal.returns-in_default-after-clause-exact
returns-in_default-after-clause-exact c =
    (λ ok. cc ok, λ commit. absurd (broken_no_commit c.args.bytes.now _ (returns-in_default-after-clause-bad c) commit))

pub returns-clause-commit : goal.returns-clause-commit
returns-clause-commit c =
    let tree = c.in-Some.ensures.found in
    commit_parts c.args.bytes.now c.in-Some.behind_tree.now c.behind_parents-rest.result.now c.in-Some.tree tree.0 tree.1
    c.behind_parents-rest.ensures (c.in-Some-after.field-0.now, c.in-Some-after.ensures.found)

pub returns-clause-exact : goal.returns-clause-exact
returns-clause-exact c = (λ ok. (_, returns-clause-commit c), λ commit. refl)
