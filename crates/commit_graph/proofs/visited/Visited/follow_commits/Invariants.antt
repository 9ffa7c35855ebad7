use Rattle.std.proofs.Common.{take}
use Rattle.std.specs.Prelude.{map, filter}
use Rattle.commit_graph.specs.Lists.{Extends}
use Rattle.commit_graph.specs.Pairs.{pair_of, is_commit_link}
use Rattle.commit_graph.proofs.visited.Visited.follow_commits.Given as goal

abbrev pub invariant-loop-link : goal.invariant-loop-link
invariant-loop-link l = Extends l.fn.self (map pair_of (filter is_commit_link (take l.link-index l.links))) l.self
