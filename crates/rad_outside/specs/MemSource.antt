-- What a source in memory has left, and its takes.
use Rattle.std.specs.Prelude.{ℕ, List, Option, Some, drop}
use Rattle.rad_outside.specs.declared.failing_calls.FailingCalls.{FailingCalls}
use Rattle.rad_outside.specs.declared.memory_source.MemSource.{MemSource}

-- the bytes that are left of it
abbrev pub rest_of : MemSource → List ℕ
rest_of source = drop source.place source.bytes.items

-- these bytes, which it tells
abbrev pub left_of : MemSource → Option (List ℕ)
left_of source = Some (rest_of source)

-- the most that one take gives
abbrev pub piece_of : MemSource → ℕ
piece_of source = source.piece

-- which takes are to fail, and how many it has had
abbrev pub fails_of : MemSource → FailingCalls
fails_of source = source.fails
