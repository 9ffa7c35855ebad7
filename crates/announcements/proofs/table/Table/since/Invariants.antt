use Rattle.std.proofs.Common.{◌≡◌, ◌++◌}
use Rattle.announcements.proofs.Told.{told}
use Rattle.announcements.proofs.table.Table.since.Given as goal

abbrev pub invariant-loop-key : goal.invariant-loop-key
invariant-loop-key l =
    l.messages.items ++ told l.filter l.from l.to l.key-iterator ≡ told l.filter l.from l.to l.self.places.entries
