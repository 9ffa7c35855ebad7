use Rattle.std.proofs.Common.{◌≡◌, ◌∙◌, rules, sym}
use Rattle.rad_base.specs.Order.{is_above}
use Rattle.rad_base.proofs.Rising.{above, passes}
use Rattle.rad_base.proofs.remotes.Remotes.is_above.Goals as goal

pub returns-in-Some-clause-above : goal.returns-in-Some-clause-above
returns-in-Some-clause-above c =
    let test : c.is_lt.result ≡ is_above c.args.self.now c.args.node.now = search rules in
    (λ h. above c.args.self.now c.args.node.now (sym test ∙ h), λ h. test ∙ passes c.args.self.now c.args.node.now h)
