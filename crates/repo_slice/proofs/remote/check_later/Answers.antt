use Rattle.std.proofs.Common.{◌≡◌, sym, subst, ◌∙◌}
use Rattle.std.proofs.lemmas.Result.{err_from_is_err_and}
use Rattle.rad_base.specs.declared.names.Oid.{Oid}
use Rattle.rad_base.proofs.Conditions.{differ}
use Rattle.rad_base.proofs.Options.{not_nothing, one_value}
use Rattle.commit_graph.specs.Histories.{InHistory}
use Rattle.repo_slice.specs.Parts.{case_in}
use Rattle.repo_slice.proofs.Halts.{reach_halt, sig_not_later}
use Rattle.repo_slice.proofs.remote.check_later.Goals as goal

pub signed_closed-requires : goal.signed_closed-requires
signed_closed-requires g c = λ m e. c.in_ok-check_reach.ensures.told m c.args.commit.now (c.requires.closure m e)

pub returns-in_default-clause-told : goal.returns-in_default-clause-told
returns-in_default-clause-told g c = λ m e. record {
  news = c.requires.news m e;
  signed = c.in_ok-refs.ensures.told m e;
  follows = λ stored is. absurd (not_nothing is (sym c.get.ensures ∙ c.in_default.is));
}

pub returns-then-not-follows-clause-refused : goal.returns-then-not-follows-clause-refused
returns-then-not-follows-clause-refused g c = λ m e count. record {
  news = c.requires.news m e;
  refs = c.in_ok-refs.refs;
  signed = c.in_ok-refs.ensures.told m e;
  stored = c.in-Some.stored;
  is = sym c.get.ensures ∙ c.in-Some.is;
  apart = λ h. differ c.in_ok-follows.follows ((c.in_ok-follows.ensures.told m (c.in_ok-refs.ensures.keeps.content ∙ e)).1 h) c.if-not-follows.true;
}

pub returns-clause-told : goal.returns-clause-told
returns-clause-told g c = λ m e. record {
  news = c.requires.news m e;
  signed = c.in_ok-refs.ensures.told m e;
  follows = λ stored is.
      let same : c.in-Some.stored ≡ stored = one_value (sym c.get.ensures ∙ c.in-Some.is) is in
      subst (λ (o : Oid). InHistory m o c.args.commit.now) same
      ((c.in_ok-follows.ensures.told m (c.in_ok-refs.ensures.keeps.content ∙ e)).0 c.if-not-follows.false);
}

pub returns-in_err-refs-clause-none : goal.returns-in_err-refs-clause-none
returns-in_err-refs-clause-none g c = λ m e.
    let p = err_from_is_err_and c.from_residual-in_err-refs.result c.from_residual-in_err-refs.ensures.1 in
    rw (p.1, p.2)
    (sig_not_later m (case_in c.args.terms.now) c.args.node.now c.args.commit.now c.in_err-refs.field-0.0 (c.in_err-refs.ensures.refused m e))

pub returns-then-not-follows-clause-none : goal.returns-then-not-follows-clause-none
returns-then-not-follows-clause-none g c = λ m e refs later.
    let told = c.in_ok-follows.ensures.told m (c.in_ok-refs.ensures.keeps.content ∙ e) in
    differ c.in_ok-follows.follows (told.1 (later.follows c.in-Some.stored (sym c.get.ensures ∙ c.in-Some.is))) c.if-not-follows.true

pub returns-in_err-check_reach-clause-refused : goal.returns-in_err-check_reach-clause-refused
returns-in_err-check_reach-clause-refused g c = λ m e.
    let p = err_from_is_err_and c.from_residual.result c.from_residual.ensures.1 in
    rw (p.1, p.2)
    (reach_halt m (case_in c.args.terms.now) c.args.node.now c.args.commit.now c.in_err-check_reach.field-0.0
    (c.requires.news m e) (c.in_err-check_reach.ensures.refused m c.args.commit.now (c.requires.closure m e))).0

pub returns-in_err-check_reach-clause-none : goal.returns-in_err-check_reach-clause-none
returns-in_err-check_reach-clause-none g c = λ m e.
    let p = err_from_is_err_and c.from_residual.result c.from_residual.ensures.1 in
    rw (p.1, p.2)
    (reach_halt m (case_in c.args.terms.now) c.args.node.now c.args.commit.now c.in_err-check_reach.field-0.0
    (c.requires.news m e) (c.in_err-check_reach.ensures.refused m c.args.commit.now (c.requires.closure m e))).1
