use Rattle.std.proofs.Common.{◌≤◌, List, ℕ, length, subst, sym, ◌∙◌}
use Rattle.entry_bodies.proofs.HeardSizes.{heard_fits}
use Rattle.entry_bodies.proofs.writing.heard_body.Goals as goal

pub returns-clause-fits : goal.returns-clause-fits
returns-clause-fits c =
    subst (λ (l : List ℕ). length l ≤ 34000000) (sym (c.of.ensures ∙ c.in_ok-body.ensures)) (heard_fits c.args.message.now c.requires)
