use Rattle.std.proofs.Common.{◌≡◌, ◌≤◌, List, ℕ, length, subst, sym, ◌∙◌}
use Rattle.entry_bodies.specs.Bodies.{put_size}
use Rattle.entry_bodies.proofs.Bodies.{put_fits, put_sized}
use Rattle.entry_bodies.proofs.writing.put_body.Goals as goal

pub returns-clause-size : goal.returns-clause-size
returns-clause-size c =
    subst (λ (l : List ℕ). length l ≡ put_size c.args.batch.now) (sym (c.of.ensures ∙ c.in_ok-body.ensures.text))
    (put_sized c.args.rid.now c.args.batch.now c.put_bytes.ensures.size)

pub returns-clause-fits : goal.returns-clause-fits
returns-clause-fits c =
    subst (λ (l : List ℕ). length l ≤ 34000000) (sym (c.of.ensures ∙ c.in_ok-body.ensures.text))
    (put_fits c.args.rid.now c.args.batch.now c.put_bytes.ensures.size c.requires)
