use Rattle.std.proofs.Common.{take}
use Rattle.store_reports.specs.Parts.{AddsKeys, pairs_with}
use Rattle.store_reports.specs.Reports.{pair_cmp}
use Rattle.store_reports.proofs.entries.add_names.Given as goal

abbrev pub invariant-loop-name : goal.invariant-loop-name
invariant-loop-name l = AddsKeys pair_cmp (pairs_with l.rid (take l.name-index l.names)) l.initial.pairs l.pairs
