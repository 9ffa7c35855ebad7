use Rattle.std.proofs.Common.{◌∙◌}
use Rattle.fetch_serve.specs.Replies.{Among, IsLineOf, IsThere}
use Rattle.fetch_serve.proofs.Adding.{adds_as, adds_none}
use Rattle.rad_base.proofs.Conditions.{differ}
use Rattle.fetch_serve.proofs.Standing.{lines_iff}
use Rattle.fetch_serve.proofs.haves.add_lines_of.Goals as goal

pub returns-in_default-clause-told : goal.returns-in_default-clause-told
returns-in_default-clause-told g c = λ m e.
    adds_none (IsLineOf m c.args.have.now) c.args.roots.now.items
    (λ r h. (rw c.in_default.is at (c.in_ok-refs.ensures.told m (c.in_ok-embeds.ensures.keeps.content ∙ e))) h.1.0 h.1.1)

pub returns-clause-told : goal.returns-clause-told
returns-clause-told g c = λ m e.
    let later = c.in_ok-embeds.ensures.keeps.content ∙ e in
    adds_as (λ r. Among c.in-Some.refs (λ line x. IsThere m line.1 x) r) (IsLineOf m c.args.have.now) c.args.roots.now.items c.add_lines.new.roots.items
    (lines_iff m c.args.have.now c.in-Some.refs (λ k. differ c.in_ok-embeds.embeds ((c.in_ok-embeds.ensures.told m e).1 k) c.if-embeds.false)
    (rw c.in-Some.is at (c.in_ok-refs.ensures.told m later)))
    (c.in_ok-add_lines.ensures.told m (c.in_ok-refs.ensures.keeps.content ∙ later))
