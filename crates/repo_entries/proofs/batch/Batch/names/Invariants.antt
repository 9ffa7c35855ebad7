use Rattle.std.proofs.Common.{◌≡◌, take}
use Rattle.repo_entries.specs.Items.{names_of}
use Rattle.repo_entries.proofs.batch.Batch.names.Given as goal

abbrev pub invariant-loop-kind : goal.invariant-loop-kind
invariant-loop-kind l = l.names ≡ names_of (take l.kind-index l.kind-items)
