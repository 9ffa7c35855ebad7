-- Where no candidate has all others in its history.
use Rattle.std.specs.Prelude.{◌⊎◌, List, filter, Some, None}
use Rattle.rad_base.specs.declared.names.Oid.{Oid}
use Rattle.canonical_head.specs.declared.answer.Head.{Head}
use Rattle.canonical_head.specs.declared.answer.Head.TheVariants.{At, NoQuorum, Diverging, NoBranch}
use Rattle.canonical_head.specs.declared.table.Table.{Table}
use Rattle.canonical_head.specs.Least.{IsLeastIn}
use Rattle.canonical_head.specs.Tables.{is_beside, has_rival}

-- those that have another beside them
abbrev pub rivaled_in : Table → List Oid → List Oid
rivaled_in table candidates = filter (has_rival table candidates) candidates

-- those beside one
abbrev pub rivals_in : Table → List Oid → Oid → List Oid
rivals_in table candidates oid = filter (is_beside table oid) candidates

-- the least that has another beside it, and the least beside that; no quorum where there is none
abbrev pub IsDivergence : Table → List Oid → Head → Type 0
IsDivergence table candidates NoQuorum =
    IsLeastIn (rivaled_in table candidates) None
    ⊎ ((oid : Oid) × (IsLeastIn (rivaled_in table candidates) (Some oid) × IsLeastIn (rivals_in table candidates oid) None))
IsDivergence table candidates (Diverging a b) =
    IsLeastIn (rivaled_in table candidates) (Some a) × IsLeastIn (rivals_in table candidates a) (Some b)
IsDivergence table candidates (At oid) = ⊥
IsDivergence table candidates NoBranch = ⊥
