use Rattle.std.proofs.Common.{◌≡◌, sym, ap, ◌∙◌}
use Rattle.std.specs.Ordering.{is_lt}
use Rattle.rad_base.specs.Order.{nid_cmp}
use Rattle.identity_doc.proofs.SignatureOrder.{less_is_lt, lt_is_less, may_follow_last}
use Rattle.identity_doc.proofs.signatures.may_follow.Goals as goal

pub returns-in-Some : goal.returns-in-Some
returns-in-Some c =
    let test : c.is_lt.result ≡ is_lt (nid_cmp c.in-Some.line.now.key c.args.key.now) = c.is_lt.ensures ∙ ap is_lt c.cmp.ensures in
    let last = may_follow_last c.args.lines.now c.in-Some.line.now c.args.key.now (sym c.in-Some.ensures.value) in
    (λ h. last.0 (lt_is_less _ (sym test ∙ h)), λ may. test ∙ less_is_lt _ (last.1 may))
