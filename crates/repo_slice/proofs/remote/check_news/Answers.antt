use Rattle.std.proofs.Common.{◌≡◌, sym, subst, ◌∙◌, rules}
use Rattle.rad_base.specs.declared.names.Oid.{Oid}
use Rattle.rad_base.proofs.Conditions.{differ}
use Rattle.rad_base.proofs.Options.{one_value}
use Rattle.commit_graph.specs.Histories.{InHistory}
use Rattle.commit_graph.proofs.HistoryWalks.{history_itself}
use Rattle.repo_slice.proofs.remote.check_news.Goals as goal

pub returns-clause-told : goal.returns-clause-told
returns-clause-told g c = λ m e. record {
  scope = c.is_in_scope.ensures.0 c.if-not-is_in_scope.false;
  ahead = λ stored is h.
      let same : stored ≡ c.in-Some.stored = one_value is (sym c.get.ensures ∙ c.in-Some.is) in
      differ c.in_ok-is_old.is_old
      ((c.in_ok-is_old.ensures.told m e).1 (subst (λ (o : Oid). InHistory m c.args.commit.now o) same h)) c.if-is_old.false;
}

pub returns-then-eq-clause-none : goal.returns-then-eq-clause-none
returns-then-eq-clause-none g c = λ m e news.
    let same : c.in-Some.stored ≡ c.args.commit.now = search rules in
    news.ahead c.in-Some.stored (sym c.get.ensures ∙ c.in-Some.is)
    (subst (λ (o : Oid). InHistory m c.args.commit.now o) (sym same) (history_itself m c.args.commit.now))

pub returns-then-is_old-clause-none : goal.returns-then-is_old-clause-none
returns-then-is_old-clause-none g c = λ m e news.
    news.ahead c.in-Some.stored (sym c.get.ensures ∙ c.in-Some.is) ((c.in_ok-is_old.ensures.told m e).0 c.if-is_old.true)
