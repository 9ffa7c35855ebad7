use Rattle.std.proofs.Common.{◌≡◌, ◌∙◌, rules, sym}
use Rattle.std.specs.Ordering.{is_lt}
use Rattle.rad_base.specs.Order.{last_passes, rid_cmp}
use Rattle.rad_base.proofs.Rising.{above_by, passes_by}
use Rattle.gossip_wire.proofs.lists.is_above.Goals as goal

pub returns-in-Some : goal.returns-in-Some
returns-in-Some c =
    let test : c.is_lt.result ≡ last_passes (λ last. is_lt (rid_cmp last c.args.rid.now)) c.args.rids.now = search rules in
    (λ h. above_by (λ x. x) rid_cmp c.args.rids.now c.args.rid.now (sym test ∙ h), λ h. test ∙ passes_by (λ x. x) rid_cmp c.args.rids.now c.args.rid.now h)
