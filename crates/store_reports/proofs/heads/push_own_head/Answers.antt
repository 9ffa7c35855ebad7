use Rattle.std.proofs.Common.{sym, ◌∙◌}
use Rattle.store_reports.proofs.Adding.{on_ok}
use Rattle.store_reports.proofs.Heading.{with_line}
use Rattle.store_reports.proofs.heads.push_own_head.Goals as goal

pub returns-in-Ok-clause-line : goal.returns-in-Ok-clause-line
returns-in-Ok-clause-line g c = λ items s.
    on_ok c.push_head_of.result _ _ c.push_head_of.ensures (λ w.
    with_line c.args.store.now.keyring items c.args.rid.now c.in-Ok.head c.args.text.now.items c.push_head_of.new.text.items
    (sym (c.has_identity.ensures.told items s) ∙ c.if-not-has_identity.false) (c.in-Ok.ensures.head items s) w)
