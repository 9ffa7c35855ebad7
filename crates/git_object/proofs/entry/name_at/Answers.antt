use Rattle.std.proofs.Common.{arith}
use Rattle.git_object.proofs.NameFronts.{no_name_slash, no_name_end}
use Rattle.git_object.proofs.entry.name_at.Goals as goal

pub returns-then-byte-eq47-clause-none : goal.returns-then-byte-eq47-clause-none
returns-then-byte-eq47-clause-none c = no_name_slash c.args.bytes.now c.loop-at.at c.loop-at.invariant c.if-byte-eq47.true

pub returns-clause-none : goal.returns-clause-none
returns-clause-none c = no_name_end c.args.bytes.now (λ k h. c.loop-at.invariant k (omega (arith, c.loop-at-test.false)))
