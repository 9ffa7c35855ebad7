use Rattle.store_reports.proofs.Pairs.{names_turn}
use Rattle.store_reports.proofs.entries.add_names.Goals as goal

pub loop-name-preserved : goal.loop-name-preserved
loop-name-preserved c =
    names_turn c.args.rid.now c.args.names.now c.loop-name.name-index _ c.args.pairs.now c.loop-name.pairs c.insert.new.self c.loop-name-test.true
    c.in_ok-insert.ensures.updates.0 c.loop-name.invariant
