use Rattle.canonical_head.proofs.Marking.{HasBelow}
use Rattle.canonical_head.proofs.nearest.found_below.Given as goal

abbrev pub invariant-loop-number : goal.invariant-loop-number
invariant-loop-number l = HasBelow l.marked.found l.list.items l.number
