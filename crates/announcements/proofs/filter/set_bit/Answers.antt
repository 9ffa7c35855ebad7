use Rattle.std.proofs.Common.{arith}
use Rattle.announcements.proofs.Bits.{set_one}
use Rattle.announcements.proofs.filter.set_bit.Goals as goal

pub returns-then-i-bytes-clause-bits : goal.returns-then-i-bytes-clause-bits
returns-then-i-bytes-clause-bits c = λ j inside. set_one c.args.bytes.now c.args.i j (omega (arith, c.if-i-bytes.true))
