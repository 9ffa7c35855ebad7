use Rattle.std.proofs.Common.{◌≡◌, ℕ, false, inr, rules, subst}
use Rattle.std.specs.BTreeSet.{contains}
use Rattle.rad_base.specs.Order.{oid_cmp}
use Rattle.commit_graph.specs.Facts.{IsTestedNew}
use Rattle.commit_graph.proofs.PairSteps.{where_ok}
use Rattle.commit_graph.proofs.beyond.test_pair.Goals as goal

pub returns-then-not-contains-clause-told : goal.returns-then-not-contains-clause-told
returns-then-not-contains-clause-told g c = λ m e.
    let unknown : contains oid_cmp c.args.known.now c.args.pair.oid ≡ false = search rules in
    where_ok
    (λ looked tested. inr (unknown, subst (λ (before : ℕ). IsTestedNew m c.args.pair c.args.facts.now c.test.new.self looked before c.test.new.steps) c.tick.ensures tested))
    c.test.result (c.test.ensures.told m e)
