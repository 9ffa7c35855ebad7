use Rattle.std.proofs.Common.{◌≡◌, ◌+◌, take}
use Rattle.repo_entries.specs.Batches.{content_size}
use Rattle.object_store.proofs.replayed.are_small.Given as goal

abbrev pub invariant-objects : goal.invariant-objects
invariant-objects l = l.left + content_size (take l.object-index l.objects) ≡ 4194304
