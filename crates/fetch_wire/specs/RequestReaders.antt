-- What a reader of requests has read, and what feeding it answers.
use Rattle.std.specs.Prelude.{◌≡◌, ℕ, List, ◌++◌, Option, None, Some, Result, Ok, Err, Vec}
use Rattle.std.specs.Option.{option_map}
use Rattle.std.specs.declared.alloc.Global.{Global}
use Rattle.unit_reader.specs.Units.{Broken, behind, reading}
use Rattle.unit_reader.specs.declared.units.Stop.{Stop}
use Rattle.unit_reader.specs.declared.units.Stop.TheVariants as stop
use Rattle.fetch_wire.specs.RequestJudging.{goes_on, judge_request}
use Rattle.fetch_wire.specs.RequestReadings.{requests_of}
use Rattle.fetch_wire.specs.declared.request.Request.{Request}
use Rattle.fetch_wire.specs.declared.request.RequestFault.{RequestFault}
use Rattle.fetch_wire.specs.declared.request.RequestFault.TheVariants as fault
use Rattle.fetch_wire.specs.declared.request_reader.RequestReader.{RequestReader}
use Rattle.fetch_wire.specs.declared.request_units.RequestUnits.{RequestUnits}

-- the unit that stands next in a reader, what of it is held, and the requests before a break
abbrev pub request_unit : RequestReader → RequestUnits
request_unit reader = reader.reader.reader.0

abbrev pub request_held : RequestReader → List ℕ
request_held reader = reader.reader.reader.1

abbrev pub requests_before : RequestReader → List Request
requests_before reader = reader.reader.before.items

-- a fault in the words of requests
abbrev pub request_fault : Stop ℕ → RequestFault
request_fault (stop.Broken place) = fault.Bad place
request_fault stop.NoMemory = fault.NoMemory

-- the fault that a reader answers ever after, if it refused a piece
abbrev pub request_refused : RequestReader → Option RequestFault
request_refused reader = option_map request_fault reader.reader.stop

-- these bytes were fed; they gave these requests, and the last of them are held
pub record HasReadRequests (fed : List ℕ) (requests : List Request) (reader : RequestReader) : Type 0 where
  pub goes : request_refused reader ≡ None
  pub read : (rest : List ℕ) → requests_of (fed ++ rest) ≡ behind requests (reading goes_on judge_request (request_unit reader) (request_held reader) rest)

-- what feeding a piece answers to a reader that has read these bytes
abbrev pub FeedsRequests : List ℕ → List Request → List ℕ → RequestReader → Result (Vec Request Global) RequestFault → Type 0
FeedsRequests fed requests piece new (Ok got) = HasReadRequests (fed ++ piece) (requests ++ got.items) new
FeedsRequests fed requests piece new (Err (fault.Bad place)) =
    (request_refused new ≡ Some (fault.Bad place))
    × (requests_of (fed ++ piece) ≡ record { items = requests ++ requests_before new; place = Broken place })
FeedsRequests fed requests piece new (Err fault.NoMemory) = request_refused new ≡ Some fault.NoMemory
