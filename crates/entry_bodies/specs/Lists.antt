-- The objects of a put, as all of some bytes.
use Rattle.std.specs.Prelude.{◌≡◌, ℕ, List, length}
use Rattle.std.specs.List.{flat_map}
use Rattle.commit_graph.specs.Objects.{Object}
use Rattle.repo_entries.specs.Batches.{AreContents}
use Rattle.entry_bodies.specs.Bodies.{held_text}

-- so many objects within their limit, whose texts are the bytes
pub record SpellObjects (bytes : List ℕ) (n : ℕ) (objects : List Object) : Type 0 where
  pub each : AreContents objects
  pub count : length objects ≡ n
  pub text : bytes ≡ flat_map held_text objects
