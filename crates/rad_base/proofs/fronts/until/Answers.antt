use Rattle.std.proofs.Common.{arith}
use Rattle.rad_base.proofs.OneFront.{lacks_from, stopped}
use Rattle.rad_base.proofs.fronts.until.Goals as goal

pub returns-then-byte-stop-clause-found : goal.returns-then-byte-stop-clause-found
returns-then-byte-stop-clause-found c =
    stopped c.args.stop c.loop-at.at c.args.bytes.now
    (record { inside = omega arith; before = c.loop-at.invariant; here = c.if-byte-stop.true })

pub returns-clause-none : goal.returns-clause-none
returns-clause-none c = lacks_from c.args.stop c.args.bytes.now (λ k inside. c.loop-at.invariant k (omega arith))
