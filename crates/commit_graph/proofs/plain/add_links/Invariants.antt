use Rattle.std.proofs.Common.{take}
use Rattle.std.specs.Prelude.{map}
use Rattle.commit_graph.specs.Lists.{Extends}
use Rattle.commit_graph.specs.Pairs.{pair_of}
use Rattle.commit_graph.proofs.plain.add_links.Given as goal

abbrev pub invariant-loop-link : goal.invariant-loop-link
invariant-loop-link l = Extends l.fn.list.items (map pair_of (take l.link-index l.links)) l.list.items
