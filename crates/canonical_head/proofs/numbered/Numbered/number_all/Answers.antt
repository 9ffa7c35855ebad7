use Rattle.canonical_head.proofs.Numbering.{numbered_none, numbered_more}
use Rattle.canonical_head.proofs.numbered.Numbered.number_all.Goals as goal

pub loop-oid-init : goal.loop-oid-init
loop-oid-init c = numbered_none c.args.self.now c.new-row.result.items c.new-row.ensures.items

pub loop-oid-preserved : goal.loop-oid-preserved
loop-oid-preserved c =
    numbered_more c.args.oids.now c.loop-oid.oid-index _ c.in_ok-number.field-0 c.loop-oid-test.true c.loop-oid.invariant
    c.in_ok-number.ensures.ok c.in_ok-number.ensures.number c.in_ok-push.ensures.items
