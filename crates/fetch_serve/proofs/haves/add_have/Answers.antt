use Rattle.std.proofs.Common.{◌∙◌}
use Rattle.fetch_serve.specs.Replies.{IsLineOf, IsThere, StandsFor}
use Rattle.fetch_serve.proofs.Adding.{adds_both}
use Rattle.fetch_serve.proofs.haves.add_have.Goals as goal

pub returns-clause-told : goal.returns-clause-told
returns-clause-told g c = λ m e.
    adds_both (IsThere m c.args.have.now) (IsLineOf m c.args.have.now) (StandsFor m c.args.have.now) c.args.roots.now.items c.add_there.new.roots.items c.add_lines_of.new.roots.items
    (c.in_ok-add_there.ensures.told m e) (c.in_ok-add_lines_of.ensures.told m (c.in_ok-add_there.ensures.keeps.content ∙ e)) (λ r. (λ h. h, λ h. h))
