-- The lines of frames.
use Rattle.std.specs.Prelude.{ℕ, List, [], ◌++◌, codes, decimal, length}
use Rattle.std.specs.List.{flat_map}
use Rattle.gossip_wire.specs.Frames.{payload_of}
use Rattle.gossip_wire.specs.declared.frame.Body.{Body}
use Rattle.gossip_wire.specs.declared.frame.Body.TheVariants.{Control, Gossip, Git}
use Rattle.gossip_wire.specs.declared.frame.Frame.{Frame}
use Rattle.gossip_wire.specs.declared.message.Message.{Message}
use Rattle.gossip_wire.specs.declared.message.Message.TheVariants.{Hello, Node, Inventory, Refs, Subscribe, Ping, Pong}
use Rattle.report_texts.specs.Texts.{number_text}

-- the word for a body's kind
abbrev pub kind_text : Body → List ℕ
kind_text (Control bytes) = codes "control"
kind_text (Gossip message) = codes "gossip"
kind_text (Git bytes) = codes "git"

-- the word for a message
abbrev pub message_name : Message → List ℕ
message_name (Hello node) = codes "hello"
message_name (Node node sig features time alias addresses) = codes "node"
message_name (Inventory node sig rids time) = codes "inventory"
message_name (Refs node sig rid remotes time) = codes "refs"
message_name (Subscribe filter from to) = codes "subscribe"
message_name (Ping pong zeros) = codes "ping"
message_name (Pong zeros) = codes "pong"

-- the name of the message that a body has, if it has one
abbrev pub name_part : Body → List ℕ
name_part (Control bytes) = []
name_part (Gossip message) = codes " " ++ message_name message
name_part (Git bytes) = []

-- a frame with its place: the place, the kind, the number of the stream, the side, the length of the payload, and the
-- name of a message
abbrev pub frame_line : ℕ × Frame → List ℕ
frame_line placed =
    decimal placed.0 ++ codes " " ++ kind_text placed.1.body ++ number_text (codes " ") placed.1.number
    ++ number_text (codes " ") placed.1.side ++ number_text (codes " ") (length (payload_of placed.1.body))
    ++ name_part placed.1.body ++ codes "\n"

-- some frames, in order
abbrev pub frames_text : List (ℕ × Frame) → List ℕ
frames_text frames = flat_map frame_line frames
