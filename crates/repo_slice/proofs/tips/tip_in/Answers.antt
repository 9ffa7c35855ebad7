use Rattle.std.proofs.Common.{sym, ◌∙◌}
use Rattle.rad_base.proofs.Conditions.{differ}
use Rattle.rad_base.proofs.Options.{not_nothing, some_is}
use Rattle.repo_slice.proofs.Naming.{no_commit, no_line}
use Rattle.repo_slice.proofs.tips.tip_in.Goals as goal

pub returns-in_default-get-clause-told : goal.returns-in_default-get-clause-told
returns-in_default-get-clause-told g c = λ m e.
    no_line m c.args.commit.now c.args.name.now c.in-Some.refs (rw c.in-Some.is at (c.in_ok-refs.ensures.told m e))
    (λ tip line. not_nothing ((c.get.ensures tip).1 line) c.in_default-get.is)

pub returns-then-not-found-clause-told : goal.returns-then-not-found-clause-told
returns-then-not-found-clause-told g c = λ m e.
    no_commit m c.args.commit.now c.args.name.now c.in-Some.refs c.in-Some-get.oid (rw c.in-Some.is at (c.in_ok-refs.ensures.told m e))
    (λ tip line. some_is c.in-Some-get.oid tip (sym c.in-Some-get.is ∙ (c.get.ensures tip).1 line))
    (λ is. differ c.in_ok-found.found ((c.in_ok-found.ensures.told m (c.in_ok-refs.ensures.keeps.content ∙ e)).1 is) c.if-not-found.true)

pub returns-clause-told : goal.returns-clause-told
returns-clause-told g c = λ m e. record {
  refs = c.in-Some.refs;
  says = rw c.in-Some.is at (c.in_ok-refs.ensures.told m e);
  line = (c.get.ensures c.in-Some-get.oid).0 c.in-Some-get.is;
  is = (c.in_ok-found.ensures.told m (c.in_ok-refs.ensures.keeps.content ∙ e)).0 c.if-not-found.false;
}

pub returns-in_default-clause-told : goal.returns-in_default-clause-told
returns-in_default-clause-told g c = λ m e tip h. (rw c.in_default.is at (c.in_ok-refs.ensures.told m e)) h.refs h.says
