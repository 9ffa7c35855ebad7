use Rattle.std.proofs.Common.{◌≡◌, ◌+◌, length}
use Rattle.announcements.proofs.Entries.{kept_entries}
use Rattle.announcements.proofs.table.Table.len.Given as goal

abbrev pub invariant-loop-kept : goal.invariant-loop-kept
invariant-loop-kept l = l.count + length (kept_entries l.kept-iterator) ≡ length (kept_entries l.self.places.entries)
