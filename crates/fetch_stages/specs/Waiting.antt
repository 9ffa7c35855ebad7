-- The objects that wait for their batch to be put.
use Rattle.std.specs.Prelude.{◌≡◌, ◌⊎◌, ℕ, List, []}
use Rattle.commit_graph.specs.Objects.{Object}
use Rattle.repo_entries.specs.Batches.{IsBatch, content_size}

-- so many content bytes wait, of no object or within the limits of a put
pub record IsWaiting (waiting : List Object) (bytes : ℕ) : Type 0 where
  pub counted : bytes ≡ content_size waiting
  pub fits : (waiting ≡ []) ⊎ IsBatch waiting
