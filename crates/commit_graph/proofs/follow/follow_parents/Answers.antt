use Rattle.std.proofs.Common.{refl, subst}
use Rattle.commit_graph.specs.declared.look.Looked.{Looked}
use Rattle.commit_graph.specs.Looks.{Shows}
use Rattle.commit_graph.proofs.PairSteps.{parents_follow, ends_parents}
use Rattle.commit_graph.proofs.follow.follow_parents.Goals as goal

pub returns-in_ok-follow_commits-in-Fit-clause-told : goal.returns-in_ok-follow_commits-in-Fit-clause-told
returns-in_ok-follow_commits-in-Fit-clause-told g c = λ m e.
    let shows = λ (looked : Looked). Shows m c.args.pair looked in
    parents_follow (subst shows c.in-Fit.is (c.in_ok-links.ensures.told m e))
    c.in_ok-follow_commits-in-Fit.ensures

pub returns-in-Missing-clause-told : goal.returns-in-Missing-clause-told
returns-in-Missing-clause-told g c = λ m e. ends_parents (c.in_ok-links.ensures.told m e) c.in-Missing.is refl
