use Rattle.std.proofs.Common.{◌∙◌}
use Rattle.tree_entry.proofs.Through.{no_commit, through_commit}
use Rattle.tree_entry.proofs.commits.commit_entry.Goals as goal

pub returns-in_default-clause-told : goal.returns-in_default-clause-told
returns-in_default-clause-told g c = λ m e oid h.
    no_commit m c.args.oid.now c.in_ok-found.field-0 h.commit (c.in_ok-found.ensures.told m e) c.in_default.is h.has

pub returns-clause-told : goal.returns-clause-told
returns-clause-told g c = λ m e.
    through_commit m c.args.oid.now c.args.kind c.args.name.now c.in_ok-found.field-0 c.in-Some.found c.in_ok-entry.entry
    (c.in_ok-found.ensures.told m e) c.in-Some.is (c.in_ok-entry.ensures.told m (c.in_ok-found.ensures.keeps.content ∙ e))
