use Rattle.std.proofs.Common.{refl}
use Rattle.git_object.proofs.Linked.{commit_broken, commit_ended, commit_is}
use Rattle.git_object.proofs.link.add_commit_links.Goals as goal

pub returns-clause-added : goal.returns-clause-added
returns-clause-added c =
    let line = c.in-Some.ensures.found in
    commit_ended c.args.bytes.now c.in-Some.behind_tree.now c.in_ok-rest.rest.now c.in-Some.oid line.0 line.1 c.args.found.now.items c.push.new.self.items c.add_parent_links.new.found.items
    c.in_ok-push.ensures.items c.in_ok-rest.ensures.added (c.in-Some-after.field-0.now, c.in-Some-after.ensures.found)

pub returns-clause-commit : goal.returns-clause-commit
returns-clause-commit c =
    let line = c.in-Some.ensures.found in
    commit_is c.args.bytes.now c.in-Some.behind_tree.now c.in_ok-rest.rest.now c.in-Some.oid line.0 line.1 _ _ c.in_ok-rest.ensures.added
    (c.in-Some-after.field-0.now, c.in-Some-after.ensures.found)

pub returns-in_default-after-clause-fault : goal.returns-in_default-after-clause-fault
returns-in_default-after-clause-fault c =
    let line = c.in-Some.ensures.found in
    commit_broken c.args.bytes.now c.in-Some.behind_tree.now c.in_ok-rest.rest.now c.in-Some.oid line.0 line.1 _ _ _ c.in_ok-rest.ensures.added
    (λ begins. c.in_default-after.ensures.none begins.0 begins.1) refl
