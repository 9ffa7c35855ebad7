-- The least name of a list.
use Rattle.std.specs.Prelude.{◌≡◌, List, [], Contains, Option, Some, None}
use Rattle.rad_base.specs.declared.names.Oid.{Oid}
use Rattle.commit_graph.specs.Closures.{IsLeast}

-- none of an empty list
abbrev pub IsLeastIn : List Oid → Option Oid → Type 0
IsLeastIn names None = names ≡ []
IsLeastIn names (Some oid) = IsLeast (Contains names) oid
