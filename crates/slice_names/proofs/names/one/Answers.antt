use Rattle.slice_names.proofs.Told.{one_has}
use Rattle.slice_names.proofs.names.one.Goals as goal

pub returns : goal.returns
returns c = one_has c.new-names.result c.insert.new.self c.args.id c.new-names.ensures.empty c.in_ok-insert.ensures.updates.0
