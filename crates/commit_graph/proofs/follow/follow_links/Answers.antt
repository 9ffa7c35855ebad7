use Rattle.std.proofs.Common.{refl, subst}
use Rattle.commit_graph.specs.declared.look.Looked.{Looked}
use Rattle.commit_graph.specs.Looks.{Shows}
use Rattle.commit_graph.proofs.PairSteps.{links_follow, ends_follow}
use Rattle.commit_graph.proofs.follow.follow_links.Goals as goal

pub returns-in_ok-follow-in-Fit-clause-told : goal.returns-in_ok-follow-in-Fit-clause-told
returns-in_ok-follow-in-Fit-clause-told g c = λ m e.
    let shows = λ (looked : Looked). Shows m c.args.pair looked in
    links_follow (subst shows c.in-Fit.is (c.in_ok-links.ensures.told m e))
    c.in_ok-follow-in-Fit.ensures

pub returns-in-Missing-clause-told : goal.returns-in-Missing-clause-told
returns-in-Missing-clause-told g c = λ m e. ends_follow (c.in_ok-links.ensures.told m e) c.in-Missing.is refl
