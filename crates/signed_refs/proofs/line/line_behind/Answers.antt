use Rattle.std.proofs.Common.{◌∙◌, subst, sym}
use Rattle.rad_base.proofs.Conditions.{differ}
use Rattle.signed_refs.specs.Lines.{IsAboveNames, Line}
use Rattle.signed_refs.proofs.OneLine.{one_line}
use Rattle.signed_refs.proofs.line.line_behind.Goals as goal

pub returns-else-is_below-clause-none : goal.returns-else-is_below-clause-none
returns-else-is_below-clause-none c = λ line rest continues.
    let found = c.in_ok-name.ensures.found in
    let one = one_line line (c.in_ok-name.name.now, c.in_ok-name.oid) rest c.in_ok-name.rest.now continues.good found.0
    (sym continues.text ∙ found.1) in
    differ c.is_below.result
    (c.is_below.ensures.1 (subst (λ (l : Line). IsAboveNames c.args.refs.now l.0) one.0 continues.above)) c.if-is_below.false
