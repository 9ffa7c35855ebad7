use Rattle.std.proofs.Common.{◌≡◌, ◌++◌}
use Rattle.announcements.proofs.Inventories.{nodes_in}
use Rattle.announcements.proofs.table.Table.inventories.Given as goal

abbrev pub invariant-loop-key : goal.invariant-loop-key
invariant-loop-key l = l.nodes ++ nodes_in l.key-iterator ≡ nodes_in l.self.places.entries
