use Rattle.std.proofs.Common.{sym, ◌∙◌}
use Rattle.repo_slice.proofs.Naming.{no_remote_no_tip, tip_of_commit}
use Rattle.repo_slice.proofs.tips.tip_of.Goals as goal

pub returns-in_default-clause-told : goal.returns-in_default-clause-told
returns-in_default-clause-told g c = λ m e.
    no_remote_no_tip m c.args.remotes.now c.args.name.now c.args.node.now (sym c.get.ensures ∙ c.in_default.is)

pub returns-clause-told : goal.returns-clause-told
returns-clause-told g c = λ m e.
    tip_of_commit m c.args.remotes.now c.args.name.now c.args.node.now c.in-Some.commit c.in_ok-tip.tip (sym c.get.ensures ∙ c.in-Some.is)
    (c.in_ok-tip.ensures.told m e)
