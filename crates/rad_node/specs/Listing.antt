-- The listing of frames that bytes spell.
use Rattle.std.specs.Prelude.{◌≡◌, ◌⊎◌, ◌<◌, ◌≤◌, ◌+◌, ◌-◌, ℕ, List, [], ◌++◌, length, Option, None, Some}
use Rattle.std.specs.Io.KnownBytes.{Consumes}
use Rattle.hex.specs.Hex.{IsBytes}
use Rattle.gossip_wire.specs.Frames.{Frames}
use Rattle.gossip_wire.specs.FrameReaders.{HasReadFrames}
use Rattle.gossip_wire.specs.FramesSpelled.{placed}
use Rattle.gossip_wire.specs.Recordings.{AreReadAs, BreakAt, EndInside}
use Rattle.gossip_wire.specs.declared.frame.Frame.{Frame}
use Rattle.gossip_wire.specs.declared.frame_reader.FrameReader.{FrameReader}
use Rattle.gossip_wire.specs.declared.units.FrameUnits.{FrameUnits}
use Rattle.report_texts.specs.Frames.{frames_text}
use Rattle.rad_node.specs.declared.status.Status.{Status}
use Rattle.rad_node.specs.declared.status.Status.TheVariants.{Ok, Usage, ReadFault, WriteFault, DiskFault, Unmade, Damaged, KeyringBad, InputBad, SomeRefused, Full, NotLegal, AlreadyMade, Changed, NoMemory}
use Rattle.rad_node.specs.declared.status.WhichSource.TheVariants.{Keys, Rules, Input}

-- the most bytes that are read of frames
abbrev pub frames_limit : ℕ
frames_limit = 1073741824

-- the bytes are frames, one behind the other and nothing more, and the line of each was given, with its place
pub record Lists (bytes : List ℕ) (gives : List ℕ → Type 0) : Type 0 where
  pub frames : List Frame
  pub are : Frames bytes frames []
  pub given : gives (frames_text (placed 0 frames))

-- the limit is reached within these bytes, which break nowhere, and more follow
pub record IsPastLimit (bytes unread : List ℕ) (place : ℕ) : Type 0 where
  pub here : place ≡ frames_limit
  pub all : length bytes ≡ frames_limit
  pub more : 0 < length unread
  pub frames : List (ℕ × Frame)
  pub state : FrameUnits × List ℕ
  pub read : AreReadAs bytes frames state

-- the bytes end, and end inside the unit at this place
pub record EndsAt (at_end : Type 0) (bytes unread : List ℕ) (place : ℕ) : Type 0 where
  pub all : unread ≡ []
  pub ends : at_end
  pub inside : EndInside bytes place

-- How a listing of bytes ends, of which these were read and those were taken behind them: each frame was listed; or the
-- unit at a place is broken, the input ends inside it, or the input is longer than the limit.
abbrev pub IsListingEnd : Type 0 → List ℕ → List ℕ → (List ℕ → Type 0) → Status → Type 0
IsListingEnd at_end bytes unread gives Ok = (unread ≡ []) × at_end × Lists bytes gives
IsListingEnd at_end bytes unread gives Usage = ⊥
IsListingEnd at_end bytes unread gives (ReadFault Keys) = ⊥
IsListingEnd at_end bytes unread gives (ReadFault Rules) = ⊥
IsListingEnd at_end bytes unread gives (ReadFault Input) = Unit {0}
IsListingEnd at_end bytes unread gives WriteFault = (unread ≡ []) × at_end × Lists bytes gives
IsListingEnd at_end bytes unread gives DiskFault = ⊥
IsListingEnd at_end bytes unread gives Unmade = ⊥
IsListingEnd at_end bytes unread gives (Damaged place) = ⊥
IsListingEnd at_end bytes unread gives (KeyringBad line) = ⊥
IsListingEnd at_end bytes unread gives (InputBad place) = BreakAt bytes place ⊎ EndsAt at_end bytes unread place ⊎ IsPastLimit bytes unread place
IsListingEnd at_end bytes unread gives SomeRefused = ⊥
IsListingEnd at_end bytes unread gives Full = ⊥
IsListingEnd at_end bytes unread gives (NotLegal n) = ⊥
IsListingEnd at_end bytes unread gives AlreadyMade = ⊥
IsListingEnd at_end bytes unread gives (Changed change) = ⊥
IsListingEnd at_end bytes unread gives NoMemory = Unit {0}

-- Bytes of the input were taken, of which the first were read, within the limit, and the run ended so by them.
pub record Listed (consumed : List ℕ → Type 0) (at_end : Type 0) (gives : List ℕ → Type 0) (result : Status) : Type 0 where
  pub bytes : List ℕ
  pub unread : List ℕ
  pub took : consumed (bytes ++ unread)
  pub short : length bytes ≤ frames_limit
  pub ends : IsListingEnd at_end bytes unread gives result

-- bytes of an input were read, so many less than the limit, and the frames in them are listed in a text
pub record HasListed (old new : Option (List ℕ)) (reader : FrameReader) (text : List ℕ) (room : ℕ) : Type 0 where
  pub bytes : List ℕ
  pub frames : List (ℕ × Frame)
  pub fits : IsBytes bytes
  pub took : Consumes old new bytes
  pub size : length bytes + room ≡ frames_limit
  pub read : HasReadFrames bytes frames reader
  pub text_is : text ≡ frames_text frames

-- the same at the end of an input
pub record HasListedAll (old new : Option (List ℕ)) (at_end : Type 0) (text : List ℕ) : Type 0 where
  pub bytes : List ℕ
  pub took : Consumes old new bytes
  pub short : length bytes ≤ frames_limit
  pub ends : at_end
  pub lists : Lists bytes (λ given. given ≡ text)

-- a piece of so many bytes more was read; or there was none, since the input has ended, and all of it is listed
pub record ListsOn (old new : Option (List ℕ)) (at_end : Type 0) (reader : FrameReader) (text : List ℕ) (room n : ℕ) : Type 0 where
  pub few : n ≤ room
  pub on : 0 < n → HasListed old new reader text (room - n)
  pub all : n ≡ 0 → HasListedAll old new at_end text

-- a reader has read some bytes
pub record HasReadSome (reader : FrameReader) : Type 0 where
  pub bytes : List ℕ
  pub frames : List (ℕ × Frame)
  pub read : HasReadFrames bytes frames reader

-- the end of a run whose frames are broken at this place; or whose memory was refused
abbrev pub status_at_fault : Option ℕ → Status
status_at_fault (Some place) = InputBad place
status_at_fault None = NoMemory

-- reading bytes stops so
abbrev pub StopsListing : List ℕ → Status → Type 0
StopsListing bytes (InputBad place) = BreakAt bytes place
StopsListing bytes NoMemory = Unit {0}
StopsListing bytes other = ⊥

-- a piece more was read, and the frames that it completed are listed behind the text
pub record ListsMore (fed : List ℕ) (frames : List (ℕ × Frame)) (piece : List ℕ) (reader : FrameReader) (old new : List ℕ) : Type 0 where
  pub more : List (ℕ × Frame)
  pub read : HasReadFrames (fed ++ piece) (frames ++ more) reader
  pub text : new ≡ old ++ frames_text more

-- bytes that a listing ends well by: frames and nothing more, within the limit
pub record IsRecording (bytes : List ℕ) : Type 0 where
  pub fits : IsBytes bytes
  pub short : length bytes ≤ frames_limit
  pub frames : List Frame
  pub are : Frames bytes frames []
