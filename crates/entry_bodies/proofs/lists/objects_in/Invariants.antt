use Rattle.entry_bodies.proofs.ReadSoFar.{HasObjects}
use Rattle.entry_bodies.proofs.lists.objects_in.Given as goal

abbrev pub invariant-objects : goal.invariant-objects
invariant-objects l = HasObjects l.bytes l.counter l.batch l.rest
