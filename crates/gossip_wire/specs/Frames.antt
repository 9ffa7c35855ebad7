-- Frames, and the bytes that spell them.
use Rattle.std.specs.Prelude.{◌≡◌, ℕ, ◌+◌, ◌*◌, ◌^◌, ◌<◌, ◌≤◌, ◌⊎◌, List, [], ◌∷◌, ◌++◌, length}
use Rattle.std.specs.List.{AllByRecursion, flat_map}
use Rattle.hex.specs.Hex.{IsBytes}
use Rattle.rad_base.specs.Varint.{varint}
use Rattle.gossip_wire.specs.Messages.{IsMessage, message_text}
use Rattle.gossip_wire.specs.declared.frame.Body.{Body}
use Rattle.gossip_wire.specs.declared.frame.Body.TheVariants.{Control, Gossip, Git}
use Rattle.gossip_wire.specs.declared.frame.Frame.{Frame}

-- the four bytes in front of each frame: `rad` and the version
abbrev pub magic : List ℕ
magic = 114 ∷ 97 ∷ 100 ∷ 1 ∷ []

-- the number of a body's kind
abbrev pub kind_of : Body → ℕ
kind_of (Control bytes) = 0
kind_of (Gossip message) = 1
kind_of (Git bytes) = 2

-- the bytes of a body
abbrev pub payload_of : Body → List ℕ
payload_of (Control bytes) = bytes
payload_of (Gossip message) = message_text message
payload_of (Git bytes) = bytes

-- a byte 0 or 1, and a number
pub record IsControl (bytes : List ℕ) : Type 0 where
  pub first : ℕ
  pub number : ℕ
  pub flag : first < 2
  pub fits : number < 2 ^ 62
  pub text : bytes ≡ first ∷ varint number

-- a body of its kind
abbrev pub IsBody : Body → Type 0
IsBody (Control bytes) = IsControl bytes
IsBody (Gossip message) = IsMessage message
IsBody (Git bytes) = IsBytes bytes

-- the number of the stream, with the body's kind and the side in it
abbrev pub stream_of : Frame → ℕ
stream_of frame = frame.number * 8 + (kind_of frame.body * 2 + frame.side)

-- a frame of its form and within its limits
pub record IsFrame (frame : Frame) : Type 0 where
  pub side : frame.side < 2
  pub stream : stream_of frame < 2 ^ 62
  pub body : IsBody frame.body
  pub short : length (payload_of frame.body) ≤ 65535

-- a stream, the length of a payload, the payload
abbrev pub stream_text : ℕ → List ℕ → List ℕ
stream_text stream payload = varint stream ++ (varint (length payload) ++ payload)

-- the magic, the stream, the length of the payload, the payload
abbrev pub frame_text : Frame → List ℕ
frame_text frame = magic ++ stream_text (stream_of frame) (payload_of frame.body)

-- the bytes are these frames, one behind the other, and a rest
pub record Frames (bytes : List ℕ) (frames : List Frame) (rest : List ℕ) : Type 0 where
  pub each : AllByRecursion IsFrame frames
  pub text : bytes ≡ flat_map frame_text frames ++ rest

-- the payload has more than 65,535 bytes, or the stream is above 2^62 - 1
abbrev pub IsTooLong : Frame → Type 0
IsTooLong frame = (65535 < length (payload_of frame.body)) ⊎ (2 ^ 62 ≤ stream_of frame)
