-- What all the bytes of a link say: frames, and how they end.
use Rattle.std.specs.Prelude.{◌≡◌, ◌≢◌, ℕ, List, [], ◌++◌, Option, None, Some}
use Rattle.unit_reader.specs.Units.{At}
use Rattle.gossip_wire.specs.FrameReaders.{AreRead, BreaksBehind, frames_from}
use Rattle.gossip_wire.specs.FramesSpelled.{begun_of}
use Rattle.gossip_wire.specs.Judging.{first_unit}
use Rattle.gossip_wire.specs.declared.frame.Frame.{Frame}
use Rattle.gossip_wire.specs.declared.frame_fault.FrameFault.{FrameFault}
use Rattle.gossip_wire.specs.declared.frame_fault.FrameFault.TheVariants as fault
use Rattle.gossip_wire.specs.declared.units.FrameUnits.{FrameUnits}
use Rattle.gossip_wire.specs.declared.units.UnreadFrame.{UnreadFrame}

-- where a unit is broken
abbrev pub place_of : FrameFault → Option ℕ
place_of (fault.BadMagic place) = Some place
place_of (fault.LongVarint place) = Some place
place_of (fault.TooLong place) = Some place
place_of (fault.BadKind place) = Some place
place_of (fault.BadBody place) = Some place
place_of fault.NoMemory = None

-- The bytes are these frames, each with its place, and the beginning of a frame: up to the unit that stands next, of
-- which these bytes are held.
pub record AreReadAs (bytes : List ℕ) (frames : List (ℕ × Frame)) (state : FrameUnits × List ℕ) : Type 0 where
  pub unread : List UnreadFrame
  pub are : AreRead unread frames
  pub read : frames_from (first_unit, []) bytes ≡ record { items = unread; place = At state.0 state.1 [] }

-- a frame is begun and not whole, and the unit that stands next begins at this place
pub record IsInUnit (state : FrameUnits × List ℕ) (place : ℕ) : Type 0 where
  pub begun : begun_of state.0.next ++ state.1 ≢ []
  pub here : place ≡ state.0.field

-- the bytes end inside the unit of a frame that begins at this place, and all before it is whole
pub record EndInside (bytes : List ℕ) (place : ℕ) : Type 0 where
  pub frames : List (ℕ × Frame)
  pub state : FrameUnits × List ℕ
  pub read : AreReadAs bytes frames state
  pub inside : IsInUnit state place

-- the unit at this place is broken, and all before it is whole
pub record BreakAt (bytes : List ℕ) (place : ℕ) : Type 0 where
  pub frames : List (ℕ × Frame)
  pub fault : FrameFault
  pub breaks : BreaksBehind (frames_from (first_unit, []) bytes) frames fault
  pub here : place_of fault ≡ Some place
