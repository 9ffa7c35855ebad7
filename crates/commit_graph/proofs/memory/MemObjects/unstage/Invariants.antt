use Rattle.std.proofs.Common.{◌≡◌, length}
use Rattle.commit_graph.specs.Memory.{IsHolding, holding_of}
use Rattle.commit_graph.proofs.memory.MemObjects.unstage.Given as goal

abbrev pub invariant-loop-oid : goal.invariant-loop-oid
invariant-loop-oid l = record {
  holds : IsHolding l.self-inside;
  there : (holding_of l.self-inside).objects ≡ l.fn.self.objects;
}

abbrev pub decreases-loop-oid : goal.decreases-loop-oid
decreases-loop-oid l = length l.self-inside.staged.keys
