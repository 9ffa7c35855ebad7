-- What a reader of frames has read, and what feeding it answers.
use Rattle.std.specs.Prelude.{◌≡◌, ℕ, ◌<◌, List, [], ◌∷◌, ◌++◌, Option, None, Some}
use Rattle.unit_reader.specs.Units.{Reading, Broken, ReadsUpTo, behind, reading}
use Rattle.unit_reader.specs.declared.units.Stop.{Stop}
use Rattle.unit_reader.specs.declared.units.Stop.TheVariants as stop
use Rattle.gossip_wire.specs.Frames.{IsBody, kind_of, payload_of, stream_of}
use Rattle.gossip_wire.specs.Judging.{first_unit, judge, never, stream_kind}
use Rattle.gossip_wire.specs.declared.frame.Body.{Body}
use Rattle.gossip_wire.specs.declared.frame.Frame.{Frame}
use Rattle.gossip_wire.specs.declared.frame_fault.FrameFault.{FrameFault}
use Rattle.gossip_wire.specs.declared.frame_fault.FrameFault.TheVariants as fault
use Rattle.gossip_wire.specs.declared.frame_reader.FrameReader.{FrameReader}
use Rattle.gossip_wire.specs.declared.units.FrameBreak.{FrameBreak}
use Rattle.gossip_wire.specs.declared.units.FrameBreak.TheVariants as unit
use Rattle.gossip_wire.specs.declared.units.FrameUnits.{FrameUnits}
use Rattle.gossip_wire.specs.declared.units.UnreadFrame.{UnreadFrame}

-- the body of a kind whose bytes are the payload
pub record IsBodyOf (number : ℕ) (payload : List ℕ) (body : Body) : Type 0 where
  pub is : IsBody body
  pub kind : kind_of body ≡ number
  pub text : payload_of body ≡ payload

-- the payload is no body of its kind
abbrev pub HasNoBody : UnreadFrame → Type 0
HasNoBody unread = (body : Body) → IsBodyOf (stream_kind unread.stream) unread.payload body → ⊥

-- the frame of this stream and payload, with its place
pub record IsReadAs (unread : UnreadFrame) (placed : ℕ × Frame) : Type 0 where
  pub place : placed.0 ≡ unread.place
  pub side : placed.1.side < 2
  pub stream : stream_of placed.1 ≡ unread.stream
  pub body : IsBody placed.1.body
  pub payload : payload_of placed.1.body ≡ unread.payload

-- why a stream and a payload are no frame
abbrev pub Refuses : UnreadFrame → FrameFault → Type 0
Refuses unread (fault.BadBody place) = (place ≡ unread.inside) × HasNoBody unread
Refuses unread fault.NoMemory = Unit {0}
Refuses unread (fault.BadMagic place) = ⊥
Refuses unread (fault.LongVarint place) = ⊥
Refuses unread (fault.TooLong place) = ⊥
Refuses unread (fault.BadKind place) = ⊥

-- each payload is the body of its frame
abbrev pub AreRead : List UnreadFrame → List (ℕ × Frame) → Type 0
AreRead [] [] = Unit {0}
AreRead [] (frame ∷ frames) = ⊥
AreRead (unread ∷ more) [] = ⊥
AreRead (unread ∷ more) (frame ∷ frames) = IsReadAs unread frame × AreRead more frames

-- how bytes are read from a unit on, of which some are held
abbrev pub frames_from : FrameUnits × List ℕ → List ℕ → Reading FrameUnits UnreadFrame FrameBreak
frames_from state bytes = reading never judge state.0 state.1 bytes

-- so many bytes of a piece gave these frames
pub record GaveFrames (old new : FrameUnits × List ℕ) (piece : List ℕ) (used : ℕ) (frames : List (ℕ × Frame)) : Type 0 where
  pub unread : List UnreadFrame
  pub are : AreRead unread frames
  pub read : ReadsUpTo never judge old.0 old.1 piece used unread new.0 new.1

-- the bytes are read as these frames, and then a payload stands at this place that is no body of its kind
pub record BreaksInside (bytes : Reading FrameUnits UnreadFrame FrameBreak) (frames : List (ℕ × Frame)) (place : ℕ) : Type 0 where
  pub unread : List UnreadFrame
  pub broken : UnreadFrame
  pub more : Reading FrameUnits UnreadFrame FrameBreak
  pub are : AreRead unread frames
  pub whole : bytes ≡ behind (unread ++ broken ∷ []) more
  pub here : place ≡ broken.inside
  pub none : HasNoBody broken

-- the bytes are read as these frames, and then a unit is broken so
pub record BreaksOutside (bytes : Reading FrameUnits UnreadFrame FrameBreak) (frames : List (ℕ × Frame)) (broken : FrameBreak) : Type 0 where
  pub unread : List UnreadFrame
  pub are : AreRead unread frames
  pub whole : bytes ≡ record { items = unread; place = Broken broken }

-- how bytes break behind these frames
abbrev pub BreaksBehind : Reading FrameUnits UnreadFrame FrameBreak → List (ℕ × Frame) → FrameFault → Type 0
BreaksBehind bytes frames (fault.BadBody place) = BreaksInside bytes frames place
BreaksBehind bytes frames (fault.BadMagic place) = BreaksOutside bytes frames (unit.BadMagic place)
BreaksBehind bytes frames (fault.LongVarint place) = BreaksOutside bytes frames (unit.LongVarint place)
BreaksBehind bytes frames (fault.TooLong place) = BreaksOutside bytes frames (unit.TooLong place)
BreaksBehind bytes frames (fault.BadKind place) = BreaksOutside bytes frames (unit.BadKind place)
BreaksBehind bytes frames fault.NoMemory = Unit {0}

-- a broken unit in the words of frames
abbrev pub break_of : FrameBreak → FrameFault
break_of (unit.BadMagic place) = fault.BadMagic place
break_of (unit.LongVarint place) = fault.LongVarint place
break_of (unit.TooLong place) = fault.TooLong place
break_of (unit.BadKind place) = fault.BadKind place

abbrev pub fault_of : Stop FrameBreak → FrameFault
fault_of (stop.Broken broken) = break_of broken
fault_of stop.NoMemory = fault.NoMemory

-- a frame more, if there is one to read
abbrev pub AddsFrame : Option UnreadFrame → List (ℕ × Frame) → List (ℕ × Frame) → Type 0
AddsFrame None old new = new ≡ old
AddsFrame (Some unread) old new = (frame : ℕ × Frame) × IsReadAs unread frame × (new ≡ old ++ frame ∷ [])

-- why there is none
abbrev pub RefusesFrame : Option UnreadFrame → List (ℕ × Frame) → List (ℕ × Frame) → FrameFault → Type 0
RefusesFrame unread old new fault.NoMemory = Unit {0}
RefusesFrame None old new broken = ⊥
RefusesFrame (Some unread) old new broken = Refuses unread broken × (new ≡ old)

-- the unit that stands next in a reader, with what of it is held
abbrev pub state_of : FrameReader → FrameUnits × List ℕ
state_of reader = reader.reader

-- these bytes were fed; they gave these frames, and the last of them are held
pub record HasReadFrames (fed : List ℕ) (frames : List (ℕ × Frame)) (reader : FrameReader) : Type 0 where
  pub goes_on : reader.stop ≡ None
  pub unread : List UnreadFrame
  pub are : AreRead unread frames
  pub read : (rest : List ℕ) → frames_from (first_unit, []) (fed ++ rest) ≡ behind unread (frames_from (state_of reader) rest)

-- the bytes break behind these frames and those that the reader has from before the break; it stays so
pub record BreaksAs (bytes : List ℕ) (frames : List (ℕ × Frame)) (reader : FrameReader) (broken : FrameFault) : Type 0 where
  pub stays : reader.stop ≡ Some broken
  pub breaks : BreaksBehind (frames_from (first_unit, []) bytes) (frames ++ reader.before.items) broken
