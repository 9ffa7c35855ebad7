use Rattle.std.proofs.Common.{take}
use Rattle.routing.proofs.Links.{AreLinks}
use Rattle.routing.proofs.planned.links_of.Given as goal

abbrev pub invariant-loop-link : goal.invariant-loop-link
invariant-loop-link l = AreLinks (take l.link l.peers) l.links
