-- What the readers of a body's parts answer.
use Rattle.std.specs.Prelude.{ℕ, List, ◌∷◌}
use Rattle.repo_entries.specs.Items.{Item}
use Rattle.entry_bodies.specs.Bodies.{SpellsItem, item_in}
use Rattle.entry_bodies.specs.declared.body.Body.{Body}

-- behind this byte the bytes are the body of what was read
abbrev pub Says : ℕ → List ℕ → Body → Type 0
Says first bytes body = SpellsItem (item_in body) (first ∷ bytes)

-- behind this byte the bytes are no body
abbrev pub SaysNone : ℕ → List ℕ → Type 0
SaysNone first bytes = (item : Item) → SpellsItem item (first ∷ bytes) → ⊥
