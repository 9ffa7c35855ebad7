-- What a reader of frames was fed, as the bytes that spell it.
use Rattle.std.specs.Prelude.{◌≡◌, ℕ, List, [], ◌∷◌, ◌++◌, length, map}
use Rattle.unit_reader.specs.Units.{behind}
use Rattle.rad_base.specs.Varint.{varint}
use Rattle.gossip_wire.specs.Frames.{frame_text, magic}
use Rattle.gossip_wire.specs.FrameReaders.{AreRead, frames_from, state_of}
use Rattle.gossip_wire.specs.Judging.{begins_at, further}
use Rattle.gossip_wire.specs.declared.frame.Frame.{Frame}
use Rattle.gossip_wire.specs.declared.frame_reader.FrameReader.{FrameReader}
use Rattle.gossip_wire.specs.declared.units.Field.{Field}
use Rattle.gossip_wire.specs.declared.units.UnreadFrame.{UnreadFrame}
use Rattle.gossip_wire.specs.declared.units.Field.TheVariants as fields

-- what stands of a frame before the unit that stands next
abbrev pub begun_of : Field → List ℕ
begun_of fields.Magic = []
begun_of fields.Stream = magic
begun_of (fields.Length stream) = magic ++ varint stream
begun_of (fields.Payload stream count) = magic ++ (varint stream ++ varint count)

-- what a reader was fed of a frame that is not whole
abbrev pub rest_of : FrameReader → List ℕ
rest_of reader = begun_of (state_of reader).0.next ++ (state_of reader).1

-- the frames without their places
abbrev pub frames_of : List (ℕ × Frame) → List Frame
frames_of placed = map (λ x. x.1) placed

-- each frame with its place, the first one at this place
abbrev pub placed : ℕ → List Frame → List (ℕ × Frame)
placed place [] = []
placed place (frame ∷ frames) = (place, frame) ∷ placed (further place (length (frame_text frame))) frames

-- the bytes are read from this place on as these frames, each in its place, and what follows is read
-- as what stands behind them
pub record ReadsFrames (bytes : List ℕ) (place : ℕ) (frames : List Frame) (rest : List ℕ) : Type 0 where
  pub unread : List UnreadFrame
  pub are : AreRead unread (placed place frames)
  pub next : ℕ
  pub read : frames_from (begins_at place, []) bytes ≡ behind unread (frames_from (begins_at next, []) rest)
