use Rattle.std.proofs.Common.{◌≡◌, ◌++◌, take}
use Rattle.commit_graph.specs.InMemory.{objects_in}
use Rattle.repo_slice.proofs.slice.stage_all.Given as goal

abbrev pub invariant-loop-i : goal.invariant-loop-i
invariant-loop-i l = record {
  there : l.objects.objects ≡ l.fn.objects.objects;
  pending : objects_in l.objects.pending ≡ objects_in (l.fn.objects.pending ++ take l.i l.batch);
}
