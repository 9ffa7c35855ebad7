use Rattle.std.proofs.Common.{◌-◌, length}
use Rattle.unit_reader.specs.Units.{ReadsUpTo}
use Rattle.unit_reader.proofs.reader.UnitReader.feed.Given as goal

abbrev pub invariant-pieces : goal.invariant-pieces
invariant-pieces g l =
    ReadsUpTo g.U.Units.shut g.U.Units.judge l.fn.self.0 l.fn.self.1 l.piece l.used l.items.items l.self.0 l.self.1

abbrev pub decreases-pieces : goal.decreases-pieces
decreases-pieces g l = length l.piece - l.used
