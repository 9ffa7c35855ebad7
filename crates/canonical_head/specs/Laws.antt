-- What holds of heads by the definitions alone.
use Rattle.std.specs.Prelude.{◌⊎◌, ℕ, List, Contains}
use Rattle.rad_base.specs.declared.names.Oid.{Oid}
use Rattle.commit_graph.specs.Objects.{ObjectMap}
use Rattle.commit_graph.specs.Histories.{InHistory}
use Rattle.canonical_head.specs.Heads.{IsHead}
use Rattle.canonical_head.specs.declared.answer.Head.{Head}

-- tips have a head where it is decided of each two of them whether one lies in the history of the
-- other
abbrev pub DecidedTipsHaveHead : Type 0
DecidedTipsHaveHead = (objects : ObjectMap) (tips : List Oid) (threshold : ℕ)
    → ((a b : Oid) → Contains tips a → Contains tips b
    → InHistory objects a b ⊎ (InHistory objects a b → ⊥))
    → (head : Head) × IsHead objects tips threshold head
