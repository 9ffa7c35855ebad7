use Rattle.std.proofs.Common.{[], ◌∷◌, get_or, ◌∙◌}
use Rattle.store_reports.proofs.Heading.{heads_turn, same_store}
use Rattle.store_reports.proofs.heads.push_heads.Goals as goal

pub loop-rid-preserved : goal.loop-rid-preserved
loop-rid-preserved g c = (
  c.in_ok-push_own_head.ensures.same ∙ c.loop-rid.invariant.0,
  λ items s.
      let rid = get_or c.args.rids.now c.loop-rid.rid-index (record { 0 = record { 0 = [] } }) in
      heads_turn c.args.store.now.keyring items c.args.rids.now c.loop-rid.rid-index (record { 0 = record { 0 = [] } }) c.args.text.now.items c.loop-rid.text.items
      c.push_own_head.new.text.items c.loop-rid-test.true (c.loop-rid.invariant.1 items s)
      (same_store c.args.store.now c.loop-rid.store items (rid ∷ []) c.loop-rid.text.items c.push_own_head.new.text.items c.loop-rid.invariant.0
      (λ now. c.in_ok-push_own_head.ensures.line items now) s),
)
