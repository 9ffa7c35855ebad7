use Rattle.std.proofs.Common.{◌≡◌, ◌≤◌, List, ℕ, length, ap, subst, sym, ◌∙◌, arith}
use Rattle.entry_bodies.specs.Bodies.{install_size}
use Rattle.entry_bodies.proofs.Bodies.{install_fits, install_sized}
use Rattle.entry_bodies.proofs.writing.install_body.Goals as goal

pub returns-clause-size : goal.returns-clause-size
returns-clause-size c =
    let remotes = c.as_slice.ensures.items in
    let each = rw remotes at c.in_ok-body.ensures.each in
    let text = rw remotes at c.in_ok-body.ensures.text in
    subst (λ (l : List ℕ). length l ≡ install_size c.args.remotes.now) (sym (c.of.ensures ∙ text))
    (install_sized c.args.rid.now c.args.id.now c.args.remotes.now c.install_bytes.ensures.sizes.0 c.install_bytes.ensures.sizes.1 each)

pub returns-clause-fits : goal.returns-clause-fits
returns-clause-fits c =
    let remotes = c.as_slice.ensures.items in
    subst (λ (l : List ℕ). length l ≤ 34000000) (sym (c.of.ensures ∙ c.in_ok-body.ensures.text))
    (install_fits c.args.rid.now c.args.id.now _ c.install_bytes.ensures.sizes.0 c.install_bytes.ensures.sizes.1 (omega (arith, c.in_ok-body.ensures.each)) (omega (arith, c.requires, ap length remotes)))
