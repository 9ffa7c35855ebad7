use Rattle.std.proofs.Common.{◌≡◌, ◌-◌, ◌^◌, [], ◌∷◌, length, take}
use Rattle.commit_graph.proofs.Spread.{Spread}
use Rattle.canonical_head.specs.Ancestries.{IsNextFrom}
use Rattle.canonical_head.proofs.search.search.Given as goal

abbrev pub invariant-loop-i : goal.invariant-loop-i
invariant-loop-i l = record {
  limit : l.marked.limit ≡ length l.lists;
  spread : Spread (IsNextFrom l.lists l.start l.ends) (l.start ∷ []) (take l.i l.marked.found) l.marked.found;
}

abbrev pub decreases-loop-i : goal.decreases-loop-i
decreases-loop-i l = 2 ^ 64 - l.i
