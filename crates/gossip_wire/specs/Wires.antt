-- What a wire reads of its link, and what its calls answer.
use Rattle.std.specs.Prelude.{◌≡◌, ℕ, ◌+◌, ◌-◌, ◌<◌, ◌≤◌, ◌↔◌, Bool, IsTrue, List, [], ◌∷◌, ◌++◌, length, Option, None, Some, Result, Ok, Err}
use Rattle.std.specs.Io.KnownBytes.{Appends, Consumes, IsAtEnd}
use Rattle.unit_reader.specs.Units.{Reading, At}
use Rattle.gossip_wire.specs.FrameReaders.{AreRead, BreaksBehind, Refuses, frames_from}
use Rattle.gossip_wire.specs.Judging.{first_unit}
use Rattle.gossip_wire.specs.declared.frame.Frame.{Frame}
use Rattle.gossip_wire.specs.declared.frame_fault.FrameFault.{FrameFault}
use Rattle.gossip_wire.specs.declared.frame_fault.FrameFault.TheVariants as fault
use Rattle.gossip_wire.specs.declared.units.Field.TheVariants as fields
use Rattle.gossip_wire.specs.declared.units.FrameBreak.{FrameBreak}
use Rattle.gossip_wire.specs.declared.units.FrameUnits.{FrameUnits}
use Rattle.gossip_wire.specs.declared.units.UnreadFrame.{UnreadFrame}
use Rattle.gossip_wire.specs.declared.wire.Wire.{Wire}
use Rattle.gossip_wire.specs.declared.wire_fault.WireFault.{WireFault}
use Rattle.gossip_wire.specs.declared.wire_fault.WireFault.TheVariants.{LinkFault, Inside, TooLong, Spoilt, NoMemory}

-- What a wire has and its link has left: the unit that stands next with what of it is held, the bytes
-- that were taken and not read, how many bytes were read since the link's first, how many may be.
pub record Seen : Type 0 where
  pub state : FrameUnits × List ℕ
  pub window : List ℕ
  pub place : ℕ
  pub budget : ℕ
  pub left : Option (List ℕ)

abbrev pub seen : {L : Type 0} → Wire L → Option (List ℕ) → Seen
seen wire left = record {
  state = wire.reader;
  window = wire.window;
  place = wire.place;
  budget = wire.budget;
  left = left;
}

-- a wire that has read nothing
abbrev pub nothing_read : ℕ → Option (List ℕ) → Seen
nothing_read budget left = record { state = (first_unit, []); window = []; place = 0; budget = budget; left = left }

-- The link gave bytes, and of these and those that were taken before some were read, within the
-- budget: they are these frames, and what is held now.
pub record Reads (old new : Seen) (frames : List (ℕ × Frame)) : Type 0 where
  pub taken : List ℕ
  pub read : List ℕ
  pub unread : List UnreadFrame
  pub gave : Consumes old.left new.left taken
  pub parts : old.window ++ taken ≡ read ++ new.window
  pub place : new.place ≡ old.place + length read
  pub budget : new.budget ≡ old.budget
  pub within : length read ≤ old.budget - old.place
  pub are : AreRead unread frames
  pub whole : frames_from old.state read ≡ record { items = unread; place = At new.state.0 new.state.1 [] }

-- how bytes break, with no frame before
abbrev pub BreakAs : Reading FrameUnits UnreadFrame FrameBreak → FrameFault → Type 0
BreakAs bytes fault.NoMemory = ⊥
BreakAs bytes broken = BreaksBehind bytes [] broken

-- The link gave bytes, and of these and those that were taken before some were read, within the
-- budget: they break so.
pub record Spoils (old new : Seen) (broken : FrameFault) : Type 0 where
  pub taken : List ℕ
  pub read : List ℕ
  pub rest : List ℕ
  pub gave : Consumes old.left new.left taken
  pub parts : old.window ++ taken ≡ read ++ rest
  pub within : length read ≤ old.budget - old.place
  pub breaks : BreakAs (frames_from old.state read) broken

-- the link ended, and all its bytes were read
abbrev pub IsOver : Seen → Type 0
IsOver now = (now.window ≡ []) × IsAtEnd now.left

-- a frame stands next, and no byte of it was read
abbrev pub IsBetween : Seen → Type 0
IsBetween now = (now.state.0.next ≡ fields.Magic) × (now.state.1 ≡ [])

-- the budget is read, and the link has more
abbrev pub IsPastBudget : Seen → Type 0
IsPastBudget now = (now.budget ≤ now.place) × (0 < length now.window)

-- what a wire answers; Rose says that the link's count of faults rose
abbrev pub Answers : Seen → Seen → Type 0 → Result (Option (ℕ × Frame)) WireFault → Type 0
Answers old new Rose (Ok (Some frame)) = Reads old new (frame ∷ [])
Answers old new Rose (Ok None) = Reads old new [] × IsOver new × IsBetween new
Answers old new Rose (Err LinkFault) = Reads old new [] × Rose
Answers old new Rose (Err (Inside place)) = Reads old new [] × IsOver new × (IsBetween new → ⊥) × (place ≡ new.state.0.field)
Answers old new Rose (Err TooLong) = Reads old new [] × IsPastBudget new
Answers old new Rose (Err (Spoilt broken)) = Spoils old new broken
Answers old new Rose (Err NoMemory) = Unit {0}

-- the fault that a wire answers from then on, if it reads no more after this one
abbrev pub kept_of : WireFault → Option WireFault
kept_of (Spoilt broken) = Some (Spoilt broken)
kept_of NoMemory = Some NoMemory
kept_of LinkFault = None
kept_of (Inside place) = None
kept_of TooLong = None

-- likewise after an answer
abbrev pub kept_after : Result (Option (ℕ × Frame)) WireFault → Option WireFault
kept_after (Ok frame) = None
kept_after (Err broken) = kept_of broken

-- a frame's fault in the words of a wire
abbrev pub wire_fault : FrameFault → WireFault
wire_fault fault.NoMemory = NoMemory
wire_fault (fault.BadMagic place) = Spoilt (fault.BadMagic place)
wire_fault (fault.LongVarint place) = Spoilt (fault.LongVarint place)
wire_fault (fault.TooLong place) = Spoilt (fault.TooLong place)
wire_fault (fault.BadKind place) = Spoilt (fault.BadKind place)
wire_fault (fault.BadBody place) = Spoilt (fault.BadBody place)

-- a piece was taken of what was left, empty at the end alone
abbrev pub FillsAs : Option (List ℕ) → Option (List ℕ) → List ℕ → Bool → Type 0
FillsAs old new piece some = Consumes old new piece × (IsTrue some ↔ (0 < length piece)) × (piece ≡ [] → IsAtEnd new)

-- why no piece was taken
abbrev pub FailsAs : Type 0 → WireFault → Type 0
FailsAs Rose LinkFault = Rose
FailsAs Rose NoMemory = Unit {0}
FailsAs Rose other = ⊥

-- why bytes are no frame
abbrev pub StopsAs : Reading FrameUnits UnreadFrame FrameBreak → WireFault → Type 0
StopsAs bytes (Spoilt broken) = BreakAs bytes broken
StopsAs bytes NoMemory = Unit {0}
StopsAs bytes other = ⊥

-- why a stream and a payload are no frame
abbrev pub RefusesAs : Option UnreadFrame → WireFault → Type 0
RefusesAs (Some unread) (Spoilt (fault.BadBody place)) = Refuses unread (fault.BadBody place)
RefusesAs unread NoMemory = Unit {0}
RefusesAs unread other = ⊥

-- why reading stops
abbrev pub Stops : Seen → Seen → WireFault → Type 0
Stops old new (Spoilt broken) = Spoils old new broken
Stops old new NoMemory = Unit {0}
Stops old new other = ⊥

-- a front of the bytes was given
abbrev pub GivesFront : Option (List ℕ) → Option (List ℕ) → List ℕ → Type 0
GivesFront old new bytes = (front : List ℕ) × (rest : List ℕ) × (bytes ≡ front ++ rest) × Appends old new front
