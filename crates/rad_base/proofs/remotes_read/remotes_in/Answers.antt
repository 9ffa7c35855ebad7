use Rattle.std.proofs.Common.{◌≡◌, arith}
use Rattle.rad_base.proofs.RemotesRead.{no_remotes, not_rising, remotes_not_all}
use Rattle.rad_base.proofs.remotes_read.remotes_in.Goals as goal

pub returns-in_default-clause-none : goal.returns-in_default-clause-none
returns-in_default-clause-none c =
    no_remotes c.args.bytes.now c.remotes.counter c.args.count c.remotes.remotes c.remotes.rest.now c.remotes.invariant (omega arith) c.in_default.ensures.none

pub returns-then-not-is_above-clause-none : goal.returns-then-not-is_above-clause-none
returns-then-not-is_above-clause-none c =
    let found = c.in-Some.ensures.found in
    not_rising c.args.bytes.now c.remotes.counter c.args.count c.remotes.remotes c.remotes.rest.now c.in-Some.more.now (c.in-Some.node, c.in-Some.oid) c.remotes.invariant (omega arith)
    found.0 found.1 (λ above. let yes = c.is_above.ensures.above.1 above in grind arith)

pub returns-else-is_empty-clause-none : goal.returns-else-is_empty-clause-none
returns-else-is_empty-clause-none c =
    let at_end : c.remotes.counter ≡ c.args.count = omega arith in
    remotes_not_all c.args.bytes.now c.args.count c.remotes.remotes c.remotes.rest.now (rw at_end at c.remotes.invariant)
    (λ none. let empty = rw none at c.is_empty.ensures in cc (empty, c.if-is_empty.false))
