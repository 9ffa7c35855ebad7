-- What the bytes of requests are read as.
use Rattle.std.specs.Prelude.{◌≡◌, ℕ, ◌+◌, List, [], ◌∷◌, ◌++◌, length}
use Rattle.std.specs.List.{AllByRecursion, flat_map}
use Rattle.rad_base.specs.declared.names.Nid.{Nid}
use Rattle.rad_base.specs.declared.names.Oid.{Oid}
use Rattle.rad_base.specs.declared.names.Rid.{Rid}
use Rattle.unit_reader.specs.Units.{Breaks, FrontsBegin, Place, Reading, At, Broken, behind, reading}
use Rattle.fetch_wire.specs.Judging.{further}
use Rattle.fetch_wire.specs.RequestJudging.{first_request, goes_on, judge_request}
use Rattle.fetch_wire.specs.Requests.{IsRequest, ask_byte, counted_text, haves_text, nid_text, oid_text, repository_text, request_text}
use Rattle.fetch_wire.specs.declared.request.Request.{Request}
use Rattle.fetch_wire.specs.declared.request_units.RequestUnits.{RequestUnits}
use Rattle.fetch_wire.specs.declared.request_units.Step.{Step}
use Rattle.fetch_wire.specs.declared.request_units.Step.TheVariants as step

-- what was read of requests
abbrev pub RequestsRead : Type 0
RequestsRead = Reading RequestUnits Request ℕ

-- how bytes are read from a unit on, and from the first
abbrev pub read_from : RequestUnits → List ℕ → RequestsRead
read_from units bytes = reading goes_on judge_request units [] bytes

abbrev pub requests_of : List ℕ → RequestsRead
requests_of bytes = read_from first_request bytes

-- between two requests
abbrev pub IsBetween : RequestUnits → Type 0
IsBetween units = (units.next ≡ step.First) × (units.haves ≡ []) × (units.nodes ≡ [])

-- the bytes are read as these requests, and behind them the rest
abbrev pub ReadsRequests : List ℕ → List Request → List ℕ → Type 0
ReadsRequests bytes requests rest = (units : RequestUnits) × IsBetween units × (requests_of bytes ≡ behind requests (read_from units rest))

-- what stands of a request before the unit that stands next
abbrev pub begun_by : Step → Rid → List Oid → List Nid → List ℕ
begun_by step.First rid haves nodes = []
begun_by (step.Repository ask) rid haves nodes = ask_byte ask ∷ []
begun_by (step.Have ask left) rid haves nodes = repository_text ask rid ++ counted_text oid_text (length haves + left) haves
begun_by (step.Count ask) rid haves nodes = haves_text ask rid haves
begun_by (step.Node ask left) rid haves nodes = haves_text ask rid haves ++ counted_text nid_text (length nodes + left) nodes

abbrev pub request_begun : RequestUnits → List ℕ
request_begun units = begun_by units.next units.rid units.haves units.nodes

-- what bytes say that are read so: they are the requests, and what stands of the next one; or behind
-- the requests stands a broken one, where they end
abbrev pub TellsRequests : List ℕ → List Request → Place RequestUnits ℕ → Type 0
TellsRequests bytes requests (At units held rest) =
    AllByRecursion IsRequest requests × (rest ≡ []) × (bytes ≡ flat_map request_text requests ++ (request_begun units ++ held))
TellsRequests bytes requests (Broken place) =
    AllByRecursion IsRequest requests × (place ≡ further 0 (length (flat_map request_text requests)))
    × ((units : RequestUnits) × (unit : List ℕ) × (rest : List ℕ)
    × (bytes ≡ flat_map request_text requests ++ (request_begun units ++ (unit ++ rest))) × FrontsBegin judge_request units unit × (judge_request units unit ≡ Breaks place))
