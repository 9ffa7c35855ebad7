use Rattle.std.proofs.Common.{◌≡◌, None, Some, cond, inr, rules, ap, ◌∙◌}
use Rattle.std.specs.BTreeMap.{BTreeMap, get, is_at}
use Rattle.rad_base.specs.declared.names.Oid.{Oid}
use Rattle.rad_base.specs.Order.{oid_cmp}
use Rattle.commit_graph.specs.declared.facts.Fact.{Fact}
use Rattle.commit_graph.specs.Facts.{fact_in}
use Rattle.commit_graph.proofs.facts.Facts.test.Goals as goal

pub returns-clause-told : goal.returns-clause-told
returns-clause-told g c = λ m e.
    let unknown : fact_in c.args.self.now c.args.pair.oid ≡ None = search rules in
    let same : c.get_mut.follows.lender-at-none ≡ c.args.self.now.by_name = search rules in
    record {
      fact = c.in_ok-fact.fact;
      then_fact = c.shown_by-looked.new.fact;
      learned = inr (unknown, c.in_ok-fact.ensures.told m e, c.in_ok-fact.ensures.cost);
      shows = c.shown_by-looked.ensures;
      facts = λ other. c.in_ok-insert.ensures.updates.0 other
          ∙ ap (λ (facts : BTreeMap Oid Fact). cond (is_at (oid_cmp c.args.pair.oid) other) (Some c.shown_by-looked.new.fact) (get oid_cmp facts other)) same;
    }
