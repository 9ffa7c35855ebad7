use Rattle.std.proofs.Common.{take}
use Rattle.announcements.specs.Filters.{Sets}
use Rattle.announcements.proofs.filter.set_bits.Given as goal

abbrev pub invariant-loop-i : goal.invariant-loop-i
invariant-loop-i l = Sets (take l.i-index l.bits) l.initial.bytes l.bytes
