use Rattle.std.proofs.Common.{take}
use Rattle.store_reports.specs.Parts.{HasPairs}
use Rattle.store_reports.proofs.entries.put_names.Given as goal

abbrev pub invariant-loop-entry : goal.invariant-loop-entry
invariant-loop-entry l = HasPairs (take l.entry-index l.entries) l.pairs
