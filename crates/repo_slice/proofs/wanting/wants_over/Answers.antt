use Rattle.std.proofs.Common.{List, sym, subst, inr, ◌∙◌}
use Rattle.repo_slice.proofs.Turns.{none_among}
use Rattle.repo_slice.specs.declared.progress.Progress.{Progress}
use Rattle.repo_slice.specs.Rounds.{AreProgress}
use Rattle.repo_slice.specs.Verdicts.{case_of}
use Rattle.repo_slice.proofs.wanting.wants_over.Goals as goal

pub returns-in-Err-Whole-clause-among : goal.returns-in-Err-Whole-clause-among
returns-in-Err-Whole-clause-among g c = rw c.new.ensures (none_among c.args.offer.now.remotes)

pub returns-clause-told : goal.returns-clause-told
returns-clause-told g c = λ m e good.
    let identity = c.in-Ok.ensures.told m e in
    let case = case_of c.args.keyring.now c.args.state.now c.args.scope.now c.in-Ok.identity.doc in
    let roots = c.in_ok-round.round.roots.items in
    inr (record {
      outcome = c.in-Ok.identity.outcome;
      next = c.in-Ok.identity.next;
      identity = identity.0;
      doc = c.in-Ok.identity.doc;
      document = identity.1;
      picks = c.in_ok-nodes.ensures.told m case c.args.stage roots
          (subst (λ (found : List Progress). AreProgress m case c.args.stage roots c.args.offer.now.remotes found) (sym c.deref.ensures.value)
          (c.in_ok-round.ensures.told m (c.in-Ok.ensures.keeps.content ∙ e)));
    })
