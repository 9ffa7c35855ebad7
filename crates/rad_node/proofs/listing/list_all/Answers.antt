use Rattle.std.proofs.Common.{arith}
use Rattle.rad_node.proofs.listing.list_all.Goals as goal

pub returns-in-Ok-eq0-clause-ok : goal.returns-in-Ok-eq0-clause-ok
returns-in-Ok-eq0-clause-ok g c = (c.in-Ok-eq0.ensures.ok _ c.reading.invariant.listed).all c.in-Ok-eq0.field-0-test

pub overflow_sub-room : goal.overflow_sub-room
overflow_sub-room g c = (c.in-Ok-list_next.ensures.ok _ c.reading.invariant.listed).few

pub reading-smaller : goal.reading-smaller
reading-smaller g c =
    let few = (c.in-Ok-list_next.ensures.ok _ c.reading.invariant.listed).few in
    omega (arith, few, c.in-Ok-list_next.n-test)
