use Rattle.std.proofs.Common.{◌≡◌, take}
use Rattle.repo_entries.proofs.batch.Batch.copy.Given as goal

abbrev pub invariant-loop-kind : goal.invariant-loop-kind
invariant-loop-kind l = l.items.items ≡ take l.kind-index l.kind-items
