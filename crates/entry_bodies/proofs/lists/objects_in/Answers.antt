use Rattle.std.proofs.Common.{◌≡◌, arith}
use Rattle.entry_bodies.proofs.ReadSoFar.{no_objects, objects_not_all}
use Rattle.entry_bodies.proofs.lists.objects_in.Goals as goal

pub returns-in_default-clause-none : goal.returns-in_default-clause-none
returns-in_default-clause-none c =
    no_objects c.args.bytes.now c.objects.counter c.args.count c.objects.batch c.objects.rest.now c.objects.invariant (omega arith) c.in_default.ensures.none

pub returns-else-is_empty-clause-none : goal.returns-else-is_empty-clause-none
returns-else-is_empty-clause-none c =
    let at_end : c.objects.counter ≡ c.args.count = omega arith in
    objects_not_all c.args.bytes.now c.args.count c.objects.batch c.objects.rest.now (rw at_end at c.objects.invariant)
    (λ none. let empty = rw none at c.is_empty.ensures in cc (empty, c.if-is_empty.false))
