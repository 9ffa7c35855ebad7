use Rattle.std.proofs.Common.{◌≡◌, subst, arith}
use Rattle.signed_refs.specs.Lines.{Line}
use Rattle.fetch_serve.specs.Good.{line_root}
use Rattle.fetch_serve.specs.Parts.{Adds}
use Rattle.fetch_serve.proofs.Adding.{adds_end, adds_step}
use Rattle.fetch_serve.proofs.roots.add_names.Goals as goal

pub loop-line-preserved : goal.loop-line-preserved
loop-line-preserved c =
    let none : Line = c.line-item.result in
    adds_step (λ line root. root ≡ line_root line) c.args.refs.now c.as_slice-line-items.result.now c.loop-line.line-index none c.args.roots.now.items c.loop-line.roots.items c.add_name.new.roots.items
    c.as_slice-line-items.ensures.items (omega arith) c.loop-line.invariant
    (subst (λ (x : Line). Adds (λ root. root ≡ line_root x) c.loop-line.roots.items c.add_name.new.roots.items) c.line-item.is c.in_ok-add_name.ensures)

pub returns : goal.returns
returns c =
    adds_end (λ line root. root ≡ line_root line) c.args.refs.now c.as_slice-line-items.result.now c.loop-line.line-index c.args.roots.now.items c.loop-line.roots.items
    c.as_slice-line-items.ensures.items (omega arith) c.loop-line.invariant
