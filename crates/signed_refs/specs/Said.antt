-- The refs that commits say, whoever signed them.
use Rattle.std.specs.Prelude.{ℕ, List, codes, Option, None, Some}
use Rattle.rad_base.specs.declared.names.Oid.{Oid}
use Rattle.commit_graph.specs.Objects.{ObjectMap}
use Rattle.signed_refs.specs.Lines.{Line, SpellsRefs}
use Rattle.signed_refs.specs.Signed.{HasBlob}

-- the refs that bytes spell, and none where they spell none
abbrev pub SpellsIf : List ℕ → Option (List Line) → Type 0
SpellsIf bytes None = (refs : List Line) → SpellsRefs refs bytes → ⊥
SpellsIf bytes (Some refs) = SpellsRefs refs bytes

-- the commit's blob of refs spells these, whoever signed them
abbrev pub Says : ObjectMap → Oid → List Line → Type 0
Says objects commit refs = (text : List ℕ) × HasBlob objects commit (codes "refs") text × SpellsRefs refs text

-- the refs that the commit says, and none where it says none
abbrev pub SaysRefs : ObjectMap → Oid → Option (List Line) → Type 0
SaysRefs objects commit None = (refs : List Line) → Says objects commit refs → ⊥
SaysRefs objects commit (Some refs) = Says objects commit refs
