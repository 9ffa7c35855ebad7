-- What reading a section and putting its objects comes to.
use Rattle.std.specs.Prelude.{◌≡◌, ◌⊎◌, ℕ, ◌-◌, ◌≤◌, false, List, [], ◌∷◌, ◌++◌, length, take}
use Rattle.std.specs.Prelude.{Option, None, Some, Result, Ok, Err}
use Rattle.std.specs.List.{flat_map}
use Rattle.std.specs.Option.{option_or}
use Rattle.std.specs.Io.KnownBytes.{IsAtEnd}
use Rattle.hex.specs.Hex.{IsBytes}
use Rattle.rad_base.specs.Faults.{Rose}
use Rattle.rad_base.specs.declared.names.Rid.{Rid}
use Rattle.commit_graph.specs.Objects.{Object, ObjectMap}
use Rattle.repo_entries.specs.Items.{Item}
use Rattle.repo_slice.specs.Keeps.{Constants, Held, IsKeepCause, IsNoChange, StopsIn}
use Rattle.unit_reader.specs.Units.{At, Broken, Place}
use Rattle.fetch_wire.specs.Judging.{is_over}
use Rattle.fetch_wire.specs.SectionReaders.{HasRead, unit_of}
use Rattle.fetch_wire.specs.SectionReadings.{ReadsAs, read_of}
use Rattle.fetch_wire.specs.declared.fault.Break.{Break}
use Rattle.fetch_wire.specs.declared.part.Part.{Part}
use Rattle.fetch_wire.specs.declared.part.Part.TheVariants as part
use Rattle.fetch_wire.specs.declared.part.Which.{Which}
use Rattle.fetch_wire.specs.declared.section_reader.SectionReader.{SectionReader}
use Rattle.fetch_wire.specs.declared.units.SectionUnits.{SectionUnits}
use Rattle.fetch_stages.specs.Batches.{IsCut, IsOpenCut}
use Rattle.fetch_stages.specs.Pieces.{Uses}
use Rattle.fetch_stages.specs.Puts.{Joins, PutsBatches, StopsJoining, puts_of}
use Rattle.fetch_stages.specs.declared.section_stop.SectionStop.{SectionStop}
use Rattle.fetch_stages.specs.declared.section_stop.SectionStop.TheVariants as stop
use Rattle.fetch_stages.specs.declared.piece.Used.{Used}
use Rattle.fetch_stages.specs.declared.section.Section.{Section}
use Rattle.fetch_stages.specs.declared.taken.Taken.{Taken}

-- the object of a part, if it is one
abbrev pub object_of_part : Part → List Object
object_of_part (part.Object kind content) = (kind, content) ∷ []
object_of_part (part.Offer offer) = []
object_of_part part.SigsHead = []
object_of_part part.TipsHead = []
object_of_part part.End = []
object_of_part (part.Refused code) = []

-- the objects among parts, in order
abbrev pub objects_among : List Part → List Object
objects_among parts = flat_map object_of_part parts

-- a part that is no object
abbrev pub head_in : Part → Option Part
head_in (part.Object kind content) = None
head_in (part.Offer offer) = Some (part.Offer offer)
head_in part.SigsHead = Some part.SigsHead
head_in part.TipsHead = Some part.TipsHead
head_in part.End = Some part.End
head_in (part.Refused code) = Some (part.Refused code)

-- the first part that is no object: the head of a section, or a refusal in its place
abbrev pub head_of : List Part → Option Part
head_of [] = None
head_of (p ∷ parts) = option_or (head_in p) (head_of parts)

-- these bytes give these parts and are inside the section, in or before the unit of a place
pub record StopsInSection (which : Which) (bytes : List ℕ) (parts : List Part) (place : ℕ) : Type 0 where
  pub units : SectionUnits
  pub held : List ℕ
  pub goes_on : is_over units ≡ false
  pub reads : read_of which bytes ≡ record { items = parts; place = At units held [] }
  pub begins : units.place ≡ place

-- these bytes give these parts up to the end, whatever follows them
abbrev pub ReadsToEnd : Which → List ℕ → List Part → Type 0
ReadsToEnd which bytes parts = (rest : List ℕ) → ReadsAs which (bytes ++ rest) parts rest

-- no byte stands behind the end
abbrev pub LeavesNone : Place SectionUnits Break → Type 0
LeavesNone (At units held rest) = rest ≡ []
LeavesNone (Broken broken) = Unit {0}

-- these bytes of a section give these parts, and none of them stands behind its end
abbrev pub GivesParts : Which → List ℕ → List Part → Type 0
GivesParts which bytes parts = (place : Place SectionUnits Break)
    × (read_of which bytes ≡ record { items = parts; place = place }) × LeavesNone place

-- the objects are put in their batches
pub record PutsAllOf {K O : Type 0} (made : K → O → List Item → Type 0) (held : K → Rid → Held)
    (rid : Rid) (caller : ℕ) (old new : K) (objects : List Object) : Type 0 where
  pub batches : List (List Object)
  pub cut : IsCut objects batches
  pub puts : PutsBatches made held rid caller old new batches

-- the objects are put but for the batch that more may join
pub record PutsSome {K O : Type 0} (made : K → O → List Item → Type 0) (held : K → Rid → Held)
    (rid : Rid) (caller : ℕ) (old new : K) (objects waiting : List Object) : Type 0 where
  pub batches : List (List Object)
  pub cut : IsOpenCut objects batches waiting
  pub puts : PutsBatches made held rid caller old new batches

-- a reader of a section has read bytes
abbrev pub HasReadBytes : SectionReader → Type 0
HasReadBytes reader =
    (which : Which) × (fed : List ℕ) × (parts : List Part) × HasRead which fed parts reader
    × IsBytes fed

-- why a call of the keep was refused, if one was
abbrev pub HasKeepCause : Option ObjectMap → ℕ → ℕ → SectionStop → Type 0
HasKeepCause objects before now (stop.Keep why) =
    IsKeepCause objects before now why × IsNoChange why
HasKeepCause objects before now stop.ReadFault = Unit {0}
HasKeepCause objects before now (stop.Ends place) = Unit {0}
HasKeepCause objects before now (stop.TooLong place) = Unit {0}
HasKeepCause objects before now (stop.Bad broken) = Unit {0}
HasKeepCause objects before now stop.NoMemory = Unit {0}

-- What a piece came to, fed to a reader that has read these bytes: bytes of it are used, and its
-- parts taken; or those before a broken unit; or of the parts so far the first, and a call of the
-- keep was refused.
abbrev pub PutsPiece : {K O : Type 0} → (K → O → List Item → Type 0) → (K → Rid → Held) → Rid → ℕ → ℕ
    → K → K → Which → List ℕ → List Part → List ℕ → Taken → Taken → SectionReader
    → Result Used SectionStop → Type 0
PutsPiece made held rid caller end old new which fed parts piece before after reader (Ok used) =
    (more : List Part) × HasRead which (fed ++ take used.count piece) (parts ++ more) reader
    × (used.count ≤ length piece) × (used.done ≡ is_over (unit_of reader))
    × (used.done ≡ false → used.count ≡ length piece)
    × (after.head ≡ option_or before.head (head_of more))
    × Joins made held rid caller old new before.batcher (objects_among more) after.batcher
PutsPiece made held rid caller end old new which fed parts piece before after reader
    (Err (stop.Bad broken)) =
    (more : List Part)
    × (read_of which (fed ++ piece) ≡ record { items = parts ++ more; place = Broken broken })
    × Joins made held rid caller old new before.batcher (objects_among more) after.batcher
PutsPiece made held rid caller end old new which fed parts piece before after reader
    (Err stop.NoMemory) = (new ≡ old) × (after ≡ before)
PutsPiece made held rid caller end old new which fed parts piece before after reader
    (Err (stop.Keep why)) =
    (more : List Part) × (used : ℕ) × (used ≤ length piece)
    × GivesParts which (fed ++ take used piece) (parts ++ more)
    × StopsJoining made rid caller end old new before.batcher (objects_among more) why
PutsPiece made held rid caller end old new which fed parts piece before after reader
    (Err stop.ReadFault) = ⊥
PutsPiece made held rid caller end old new which fed parts piece before after reader
    (Err (stop.Ends place)) = ⊥
PutsPiece made held rid caller end old new which fed parts piece before after reader
    (Err (stop.TooLong place)) = ⊥

-- what a piece comes to, whatever the reader that it is fed to has read
abbrev pub FeedsPiece : {K O : Type 0} → (K → O → List Item → Type 0) → (K → Rid → Held) → Rid → ℕ → ℕ
    → K → K → List ℕ → Taken → Taken → SectionReader → SectionReader → Result Used SectionStop
    → Type 0
FeedsPiece made held rid caller end old new piece before after reader reader' result =
    (which : Which) (fed : List ℕ) (parts : List Part) → HasRead which fed parts reader
    → PutsPiece made held rid caller end old new which fed parts piece before after reader' result

-- Where the bytes of a section stop that is not put: of those that were taken these are used and
-- others wait. At a refused call of the keep its parts are those of more bytes that wait.
abbrev pub ComesTo : Which → ℕ → List ℕ → List ℕ → List Part → Type 0 → SectionStop → Type 0
ComesTo which limit used after parts at_end stop.ReadFault =
    (place : ℕ) × StopsInSection which used parts place
ComesTo which limit used after parts at_end (stop.Ends place) =
    StopsInSection which used parts place × (after ≡ []) × at_end
ComesTo which limit used after parts at_end (stop.TooLong place) =
    StopsInSection which used parts place × (length used ≡ limit)
ComesTo which limit used after parts at_end (stop.Bad broken) =
    read_of which (used ++ take (limit - length used) after)
    ≡ record { items = parts; place = Broken broken }
ComesTo which limit used after parts at_end stop.NoMemory =
    (place : ℕ) × StopsInSection which used parts place
ComesTo which limit used after parts at_end (stop.Keep why) =
    (more : ℕ) × (more ≤ limit - length used) × GivesParts which (used ++ take more after) parts
    × IsBytes (used ++ take more after)

-- the batches of the first of some objects, of which the last waits and is not among these; or those
-- of all of them, where the section has ended
abbrev pub AreTried : Type 0 → List Object → List (List Object) → Type 0
AreTried ended objects batches =
    ((front : List Object) × (rest : List Object) × (waiting : List Object)
    × (objects ≡ front ++ rest) × IsOpenCut front batches waiting)
    ⊎ (ended × IsCut objects batches)

-- what was made of objects where a section stops: they are put but for the batch that more may
-- join; or at a put of these batches a call was refused
abbrev pub PutsUpTo : {K O : Type 0} → (K → O → List Item → Type 0) → (K → Rid → Held) → Rid → ℕ → ℕ
    → K → K → Type 0 → List Object → SectionStop → Type 0
PutsUpTo made held rid caller end old new ended objects (stop.Keep why) =
    (batches : List (List Object)) × AreTried ended objects batches
    × StopsIn made rid caller end old new (puts_of rid caller batches) why
PutsUpTo made held rid caller end old new ended objects other =
    (waiting : List Object) × PutsSome made held rid caller old new objects waiting

-- a section of at most so many bytes is read and its objects are put
pub record PutsSection {K O : Type 0} (made : K → O → List Item → Type 0) (held : K → Rid → Held)
    (rid : Rid) (caller : ℕ) (old new : K) (which : Which) (limit : ℕ)
    (left left' : Option (List ℕ)) (before after : List ℕ) (section : Section) : Type 0 where
  pub bytes : List ℕ
  pub parts : List Part
  pub uses : Uses left left' before bytes after
  pub within : length bytes ≤ limit
  pub fits : IsBytes bytes
  pub ends : ReadsToEnd which bytes parts
  pub puts : PutsAllOf made held rid caller old new (objects_among parts)
  pub head : section.head ≡ head_of parts
  pub count : section.used ≡ length bytes

-- a section of at most so many bytes is not put, and what was made of its objects
pub record StopsSection {K O : Type 0} (made : K → O → List Item → Type 0) (held : K → Rid → Held)
    (rid : Rid) (caller end : ℕ) (old new : K) (which : Which) (limit : ℕ)
    (left left' : Option (List ℕ)) (before after : List ℕ) (at_end : Type 0) (why : SectionStop) : Type 0 where
  pub used : List ℕ
  pub parts : List Part
  pub uses : Uses left left' before used after
  pub within : length used ≤ limit
  pub fits : IsBytes used
  pub comes : ComesTo which limit used after parts at_end why
  pub puts : PutsUpTo made held rid caller end old new (ReadsToEnd which used parts)
      (objects_among parts) why

-- a section is not put, by a keep of these constants and these ends
abbrev pub StopsReading : {K O : Type 0} → (K → O → List Item → Type 0) → (K → Rid → Held)
    → (K → Constants) → (K → ℕ) → Rid → K → K → Which → ℕ → Option (List ℕ) → Option (List ℕ)
    → List ℕ → List ℕ → SectionStop → Type 0
StopsReading made held constants end rid old new which limit left left' before after why =
    StopsSection made held rid (constants old).caller (end new) old new which limit left left'
    before after (IsAtEnd left') why

-- the input failed only where its count of faults rose
abbrev pub HasReadCause : ℕ → ℕ → SectionStop → Type 0
HasReadCause before now stop.ReadFault = Rose before now
HasReadCause before now other = Unit {0}

-- which loan it is stays, and the count of faults never falls
pub record KeepsLoan {T : Type 0} (loan faults : T → ℕ) (old new : T) : Type 0 where
  pub loan_stays : loan new ≡ loan old
  pub later : faults old ≤ faults new
