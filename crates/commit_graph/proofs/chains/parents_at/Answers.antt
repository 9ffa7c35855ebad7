use Rattle.std.proofs.Common.{subst}
use Rattle.commit_graph.specs.declared.look.Looked.{Looked}
use Rattle.commit_graph.specs.Looks.{Shows}
use Rattle.commit_graph.proofs.ChainLines.{parents_read, parents_none}
use Rattle.commit_graph.proofs.chains.parents_at.Goals as goal

pub returns-in_ok-parents_among-in-Fit-clause-told : goal.returns-in_ok-parents_among-in-Fit-clause-told
returns-in_ok-parents_among-in-Fit-clause-told g c = λ m e.
    let shows = λ (looked : Looked). Shows m c.commit.result looked in
    parents_read (subst shows c.in-Fit.is (c.in_ok-links.ensures.told m e)) c.commit.ensures
    c.in_ok-parents_among-in-Fit.ensures

pub returns-in-Missing-clause-told : goal.returns-in-Missing-clause-told
returns-in-Missing-clause-told g c = λ m e each has.
    absurd (parents_none (c.in_ok-links.ensures.told m e) c.in-Missing.is c.commit.ensures each has)
