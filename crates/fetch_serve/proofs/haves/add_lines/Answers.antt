use Rattle.std.proofs.Common.{subst, ◌∙◌, arith}
use Rattle.signed_refs.specs.Lines.{Line}
use Rattle.fetch_serve.specs.Parts.{Adds}
use Rattle.fetch_serve.specs.Replies.{IsThere}
use Rattle.fetch_serve.proofs.Adding.{adds_end, adds_step}
use Rattle.fetch_serve.proofs.haves.add_lines.Goals as goal

pub loop-line-preserved : goal.loop-line-preserved
loop-line-preserved g c =
    let inv = c.loop-line.invariant in
    let done = c.in_ok-add_there.ensures in
    let none : Line = c.line-item.result in
    record {
      kept = done.keeps.content ∙ inv.kept;
      beside = done.keeps.beside ∙ inv.beside;
      still = done.keeps.cause ∙ inv.still;
      told = λ m e.
          adds_step (λ line root. IsThere m line.1 root) c.args.refs.now c.as_slice-line-items.result.now c.loop-line.line-index none c.args.roots.now.items c.loop-line.roots.items c.add_there.new.roots.items
          c.as_slice-line-items.ensures.items (omega arith) (inv.told m e)
          (subst (λ (x : Line). Adds (λ root. IsThere m x.1 root) c.loop-line.roots.items c.add_there.new.roots.items) c.line-item.is (done.told m (inv.kept ∙ e)));
    }

pub returns-clause-told : goal.returns-clause-told
returns-clause-told g c = λ m e.
    adds_end (λ line root. IsThere m line.1 root) c.args.refs.now c.as_slice-line-items.result.now c.loop-line.line-index c.args.roots.now.items c.loop-line.roots.items
    c.as_slice-line-items.ensures.items (omega arith) (c.loop-line.invariant.told m e)
