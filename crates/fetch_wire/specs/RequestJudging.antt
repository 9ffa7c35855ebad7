-- What bytes say of the unit of a request that stands next.
use Rattle.std.specs.Prelude.{ℕ, ◌-◌, ◌==◌, nat_lt, nat_le, if◌then◌else◌, Bool, false, List, [], ◌∷◌, ◌++◌, length, slice_index, slice_range, replicate, Option, None, Some}
use Rattle.std.specs.Int.{from_be_bytes, w16}
use Rattle.rad_base.specs.Order.{nid_above, oid_above}
use Rattle.rad_base.specs.declared.names.Nid.{Nid}
use Rattle.rad_base.specs.declared.names.Oid.{Oid}
use Rattle.rad_base.specs.declared.names.Rid.{Rid}
use Rattle.unit_reader.specs.Units.{Verdict, Begins, Ends, Breaks}
use Rattle.fetch_wire.specs.Judging.{further}
use Rattle.fetch_wire.specs.declared.request.Ask.{Ask}
use Rattle.fetch_wire.specs.declared.request.Ask.TheVariants as asks
use Rattle.fetch_wire.specs.declared.request.Request.{Request}
use Rattle.fetch_wire.specs.declared.request.Request.TheVariants as request
use Rattle.fetch_wire.specs.declared.request_units.RequestUnits.{RequestUnits}
use Rattle.fetch_wire.specs.declared.request_units.Step.{Step}
use Rattle.fetch_wire.specs.declared.request_units.Step.TheVariants as step

-- what bytes say of a unit of a request
abbrev pub Says : Type 0
Says = Verdict RequestUnits Request ℕ

-- a unit in its place, with what was read of its request
abbrev pub units_at : ℕ → ℕ → Step → Rid → List Oid → List Nid → RequestUnits
units_at begins place stands rid haves nodes = record {
  request = begins;
  place = place;
  next = stands;
  rid = rid;
  haves = haves;
  nodes = nodes;
}

-- the next unit is this one, so many bytes on
abbrev pub ahead : RequestUnits → ℕ → Step → RequestUnits
ahead units count after = units_at units.request (further units.place count) after units.rid units.haves units.nodes

-- a request begins, so many bytes on
abbrev pub anew : RequestUnits → ℕ → RequestUnits
anew units count = units_at (further units.place count) (further units.place count) step.First units.rid [] []

-- with this repository, this have or this node
abbrev pub with_rid : RequestUnits → Rid → RequestUnits
with_rid units rid = units_at units.request units.place units.next rid units.haves units.nodes

abbrev pub with_have : RequestUnits → Oid → RequestUnits
with_have units oid = units_at units.request units.place units.next units.rid (units.haves ++ oid ∷ []) units.nodes

abbrev pub with_node : RequestUnits → Nid → RequestUnits
with_node units nid = units_at units.request units.place units.next units.rid units.haves (units.nodes ++ nid ∷ [])

-- the request of what was read
abbrev pub request_of : Ask → RequestUnits → Request
request_of asks.Begin units = request.Begin units.rid units.haves
request_of asks.Sigs units = request.Sigs units.rid units.haves units.nodes
request_of asks.Tips units = request.Tips units.rid units.haves units.nodes

-- the request is whole
abbrev pub completes : Ask → RequestUnits → ℕ → Says
completes ask units count = Ends (Some (request_of ask units)) (anew units count)

-- behind the haves stands the number of nodes, unless the identity section is asked
abbrev pub behind_haves : Ask → RequestUnits → ℕ → Says
behind_haves asks.Begin units count = completes asks.Begin units count
behind_haves asks.Sigs units count = Ends None (ahead units count (step.Count asks.Sigs))
behind_haves asks.Tips units count = Ends None (ahead units count (step.Count asks.Tips))

-- what a first byte asks
abbrev pub ask_in : ℕ → Option Ask
ask_in b = if b == 1 then Some asks.Begin else if b == 2 then Some asks.Sigs else if b == 3 then Some asks.Tips else None

abbrev pub judge_ask : Option Ask → RequestUnits → Says
judge_ask None units = Breaks units.request
judge_ask (Some ask) units = Ends None (ahead units 1 (step.Repository ask))

abbrev pub judge_byte : RequestUnits → ℕ → Says
judge_byte units b = if b == 4 then Ends (Some request.Done) (anew units 1) else judge_ask (ask_in b) units

-- the first byte
abbrev pub judge_first : RequestUnits → List ℕ → Says
judge_first units held = if length held == 1 then judge_byte units (slice_index held 0) else Begins

-- the repository and the number of haves
abbrev pub judge_haves : Ask → RequestUnits → ℕ → Says
judge_haves ask units count =
    if nat_lt 2048 count then Breaks units.request
    else if count == 0 then behind_haves ask units 22
    else Ends None (ahead units 22 (step.Have ask count))

-- their 22 bytes are judged when all are there
abbrev pub judge_repository : Ask → RequestUnits → List ℕ → Says
judge_repository ask units held =
    if length held == 22
    then judge_haves ask (with_rid units (record { 0 = record { 0 = slice_range held 0 20 } })) (from_be_bytes w16 (slice_index held 20 ∷ slice_index held 21 ∷ []))
    else Begins

-- a have more, of so many that were left
abbrev pub judge_oid : Ask → ℕ → RequestUnits → Oid → Says
judge_oid ask left units oid =
    if oid_above units.haves oid
    then (if nat_le left 1 then behind_haves ask (with_have units oid) 20
    else Ends None (ahead (with_have units oid) 20 (step.Have ask (left - 1))))
    else Breaks units.request

-- its 20 bytes are judged when all are there
abbrev pub judge_have : Ask → ℕ → RequestUnits → List ℕ → Says
judge_have ask left units held =
    if length held == 20 then judge_oid ask left units (record { 0 = slice_range held 0 20 }) else Begins

-- the number of nodes
abbrev pub judge_nodes : Ask → RequestUnits → ℕ → Says
judge_nodes ask units count =
    if nat_lt 1024 count then Breaks units.request
    else if count == 0 then completes ask units 2
    else Ends None (ahead units 2 (step.Node ask count))

-- its two bytes are judged when both are there
abbrev pub judge_count : Ask → RequestUnits → List ℕ → Says
judge_count ask units held =
    if length held == 2 then judge_nodes ask units (from_be_bytes w16 (slice_index held 0 ∷ slice_index held 1 ∷ [])) else Begins

-- a node more, of so many that were left
abbrev pub judge_nid : Ask → ℕ → RequestUnits → Nid → Says
judge_nid ask left units nid =
    if nid_above units.nodes nid
    then (if nat_le left 1 then completes ask (with_node units nid) 32
    else Ends None (ahead (with_node units nid) 32 (step.Node ask (left - 1))))
    else Breaks units.request

-- its 32 bytes are judged when all are there
abbrev pub judge_node : Ask → ℕ → RequestUnits → List ℕ → Says
judge_node ask left units held =
    if length held == 32 then judge_nid ask left units (record { 0 = slice_range held 0 32 }) else Begins

abbrev pub judge_step : Step → RequestUnits → List ℕ → Says
judge_step step.First units held = judge_first units held
judge_step (step.Repository ask) units held = judge_repository ask units held
judge_step (step.Have ask left) units held = judge_have ask left units held
judge_step (step.Count ask) units held = judge_count ask units held
judge_step (step.Node ask left) units held = judge_node ask left units held

-- what the bytes say
unfoldable pub judge_request : RequestUnits → List ℕ → Says
judge_request units held = judge_step units.next units held

-- behind each request another may stand
abbrev pub goes_on : RequestUnits → Bool
goes_on units = false

-- the first unit of the first request
abbrev pub first_request : RequestUnits
first_request = units_at 0 0 step.First (record { 0 = record { 0 = replicate 20 0 } }) [] []
