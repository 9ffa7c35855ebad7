use Rattle.std.proofs.Common.{List, ap, ◌∙◌, arith}
use Rattle.rad_base.specs.declared.names.Nid.{Nid}
use Rattle.repo_slice.specs.Standing.{delegates_in}
use Rattle.repo_slice.proofs.judging.judge_over.Goals as goal

pub returns-then-have-need-clause-told : goal.returns-then-have-need-clause-told
returns-then-have-need-clause-told g c = λ m e good.
    let identity = c.in-Ok.ensures.told m e in
    record {
      judged = record { id_outcome = c.in-Ok.identity.outcome; outcomes = c.in_ok-found.found.outcomes; next_id = c.in-Ok.identity.next; advanced = c.in_ok-found.found.advanced };
      doc = c.in-Ok.identity.doc;
      are = record { identity = identity.0; document = identity.1; outcomes = c.in_ok-found.ensures.told m (c.in-Ok.ensures.keeps.content ∙ e); advanced = c.in_ok-found.ensures.advanced };
      counted = c.delegates_in-have.ensures ∙ ap (λ (ds : List Nid). delegates_in c.args.state.now.remotes c.in_ok-found.found.advanced ds) c.as_slice-delegates.ensures;
      threshold = c.from-need.ensures;
      few = c.if-have-need.true;
    }

pub returns-clause-told : goal.returns-clause-told
returns-clause-told g c = λ m e good.
    let identity = c.in-Ok.ensures.told m e in
    let counted = c.delegates_in-have.ensures ∙ ap (λ (ds : List Nid). delegates_in c.args.state.now.remotes c.in_ok-found.found.advanced ds) c.as_slice-delegates.ensures in (
      c.in-Ok.identity.doc,
      record { identity = identity.0; document = identity.1; outcomes = c.in_ok-found.ensures.told m (c.in-Ok.ensures.keeps.content ∙ e); advanced = c.in_ok-found.ensures.advanced },
      omega (arith, c.if-have-need.false, counted, c.from-need.ensures),
    )
