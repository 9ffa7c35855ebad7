-- What a history has room for.
use Rattle.std.specs.Prelude.{◌<◌}
use Rattle.std.specs.Vec.{vec_capacity, vec_len}
use Rattle.repo_entries.specs.declared.history.History.{History}

-- there is room for one entry more
abbrev pub HasRoom : History → Type 0
HasRoom history = vec_len history.entries < vec_capacity history.entries
