use Rattle.std.proofs.Common.{◌≡◌, take}
use Rattle.commit_graph.specs.Lists.{Extends}
use Rattle.canonical_head.proofs.search.Marked.extend.Given as goal

abbrev pub invariant-loop-number : goal.invariant-loop-number
invariant-loop-number l = record {
  limit : l.self.limit ≡ l.fn.self.limit;
  grown : Extends l.fn.self.found (take l.number-index l.numbers) l.self.found;
}
