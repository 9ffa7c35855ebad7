-- The bodies of a history.
use Rattle.std.specs.Prelude.{ℕ, List, map, Option, None, Some}
use Rattle.repo_entries.specs.Items.{Item}
use Rattle.entry_bodies.specs.Bodies.{body_of}

-- the bodies of entries, in order
abbrev pub bodies_of : List Item → List (List ℕ)
bodies_of items = map body_of items

-- the body of the entry in doubt, if one is
abbrev pub body_in_doubt : Option Item → Option (List ℕ)
body_in_doubt None = None
body_in_doubt (Some item) = Some (body_of item)
