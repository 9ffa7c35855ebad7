-- What a reader of a section has read, and what feeding it answers.
use Rattle.std.specs.Prelude.{◌≡◌, ℕ, ◌≤◌, Bool, false, List, [], ◌++◌, length, take, Option, None, Some, Result, Ok, Err}
use Rattle.std.specs.Option.{option_map}
use Rattle.unit_reader.specs.Units.{Reading, Broken, behind, reading}
use Rattle.unit_reader.specs.declared.units.Stop.{Stop}
use Rattle.unit_reader.specs.declared.units.Stop.TheVariants as stop
use Rattle.fetch_wire.specs.Judging.{first_unit, is_over, judge}
use Rattle.fetch_wire.specs.SectionReadings.{read_of}
use Rattle.fetch_wire.specs.declared.fault.Break.{Break}
use Rattle.fetch_wire.specs.declared.fault.SectionFault.{SectionFault}
use Rattle.fetch_wire.specs.declared.fault.SectionFault.TheVariants as fault
use Rattle.fetch_wire.specs.declared.part.Part.{Part}
use Rattle.fetch_wire.specs.declared.part.Which.{Which}
use Rattle.fetch_wire.specs.declared.section_reader.Fed.{Fed}
use Rattle.fetch_wire.specs.declared.section_reader.SectionReader.{SectionReader}
use Rattle.fetch_wire.specs.declared.units.SectionUnits.{SectionUnits}

-- the unit that stands next in a reader, what of it is held, and the parts before a break
abbrev pub unit_of : SectionReader → SectionUnits
unit_of reader = reader.reader.reader.0

abbrev pub held_of : SectionReader → List ℕ
held_of reader = reader.reader.reader.1

abbrev pub before_of : SectionReader → List Part
before_of reader = reader.reader.before.items

-- a fault in the words of sections
abbrev pub fault_of : Stop Break → SectionFault
fault_of (stop.Broken broken) = fault.Bad broken
fault_of stop.NoMemory = fault.NoMemory

-- the fault that a reader answers ever after, if it refused a piece
abbrev pub refused_as : SectionReader → Option SectionFault
refused_as reader = option_map fault_of reader.reader.stop

-- these bytes were fed and used; they gave these parts, and the last of them are held
pub record HasRead (which : Which) (fed : List ℕ) (parts : List Part) (reader : SectionReader) : Type 0 where
  pub goes_on : refused_as reader ≡ None
  pub read : (rest : List ℕ) → reading is_over judge (first_unit which) [] (fed ++ rest) ≡ behind parts (reading is_over judge (unit_of reader) (held_of reader) rest)

-- what feeding a piece answers to a reader that has read these bytes
abbrev pub FeedsSection : Which → List ℕ → List Part → List ℕ → SectionReader → Result Fed SectionFault → Type 0
FeedsSection which fed parts piece new (Ok got) =
    HasRead which (fed ++ take got.used piece) (parts ++ got.parts) new
    × (got.used ≤ length piece) × (got.done ≡ is_over (unit_of new)) × (got.done ≡ false → got.used ≡ length piece)
FeedsSection which fed parts piece new (Err (fault.Bad broken)) =
    (refused_as new ≡ Some (fault.Bad broken))
    × (read_of which (fed ++ piece) ≡ record { items = parts ++ before_of new; place = Broken broken })
FeedsSection which fed parts piece new (Err fault.NoMemory) = refused_as new ≡ Some fault.NoMemory
