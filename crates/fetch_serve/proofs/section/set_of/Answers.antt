use Rattle.fetch_serve.proofs.NamesBeyond.{set_turn}
use Rattle.fetch_serve.proofs.section.set_of.Goals as goal

pub loop-oid-preserved : goal.loop-oid-preserved
loop-oid-preserved c =
    set_turn c.loop-oid.set c.insert.new.self c.args.names.now c.loop-oid.oid-index _ c.loop-oid-test.true c.in_ok-insert.ensures.updates.0 c.loop-oid.invariant
