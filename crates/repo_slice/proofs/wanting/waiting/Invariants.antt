use Rattle.std.proofs.Common.{List, take}
use Rattle.commit_graph.specs.declared.root.Root.{Root}
use Rattle.commit_graph.specs.Objects.{ObjectMap}
use Rattle.repo_slice.specs.declared.wanting.Stage.{Stage}
use Rattle.repo_slice.specs.Outcomes.{Case}
use Rattle.repo_slice.specs.Rounds.{AreProgress}
use Rattle.repo_slice.specs.Wanted.{AreAmong, IsWanted, Picks}
use Rattle.repo_slice.proofs.wanting.waiting.Given as goal

abbrev pub invariant-loop-i : goal.invariant-loop-i
invariant-loop-i l = record {
  told : (m : ObjectMap) (c : Case) (stage : Stage) (roots : List Root) → AreProgress m c stage roots l.pairs l.found
      → Picks (IsWanted m c stage) (take l.i l.pairs) l.nodes;
  among : AreAmong (take l.i l.pairs) l.nodes;
}
