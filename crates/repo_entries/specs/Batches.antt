-- How many objects, and how long ones, are put together.
use Rattle.std.specs.Prelude.{◌≡◌, ◌⊎◌, ℕ, ◌≤◌, List, length, sum_by}
use Rattle.std.specs.List.{AllByRecursion}
use Rattle.commit_graph.specs.Objects.{Object}

-- how many bytes the contents of some objects have
abbrev pub content_size : List Object → ℕ
content_size objects = sum_by (λ object. length object.1) objects

-- at most 1,024 objects, and 4,194,304 bytes of content
pub record IsWithin (objects : List Object) : Type 0 where
  pub few : length objects ≤ 1024
  pub small : content_size objects ≤ 4194304

-- one object alone, or several within the limits of several
pub record IsRun (objects : List Object) : Type 0 where
  pub some : 1 ≤ length objects
  pub fits : (length objects ≡ 1) ⊎ IsWithin objects

-- each content has at most 33,554,432 bytes
abbrev pub AreContents : List Object → Type 0
AreContents objects = AllByRecursion (λ object. length object.1 ≤ 33554432) objects

-- what one put may have
pub record IsBatch (objects : List Object) : Type 0 where
  pub run : IsRun objects
  pub each : AreContents objects
