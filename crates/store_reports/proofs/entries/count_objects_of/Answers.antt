use Rattle.store_reports.proofs.Pairs.{counts_own}
use Rattle.store_reports.proofs.entries.count_objects_of.Goals as goal

pub returns : goal.returns
returns c = λ items e.
    counts_own c.args.entries.now items c.args.rid.now c.in_ok-pairs.pairs c.count_of.result e c.in_ok-pairs.ensures c.count_of.ensures.ordered c.count_of.ensures.count
