use Rattle.std.proofs.Common.{length}
use Rattle.git_object.proofs.Linked.{Gathered}
use Rattle.git_object.proofs.link.add_parent_links.Given as goal

abbrev pub invariant-reading : goal.invariant-reading
invariant-reading l = Gathered l.bytes l.rest l.fn.found.items l.found.items

abbrev pub decreases-reading : goal.decreases-reading
decreases-reading l = length l.rest
