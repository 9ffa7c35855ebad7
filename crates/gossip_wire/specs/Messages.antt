-- Messages, and the bytes that spell them.
use Rattle.std.specs.Prelude.{◌≡◌, ℕ, ◌≤◌, ◌<◌, ◌^◌, List, ◌++◌}
use Rattle.std.specs.Int.{to_be_bytes, w16}
use Rattle.rad_base.specs.Sizes.{IsNid, IsSig}
use Rattle.rad_base.specs.declared.names.Nid.{Nid}
use Rattle.rad_base.specs.declared.names.Sig.{Sig}
use Rattle.gossip_wire.specs.Fields.{AreRefs, IsAbout, IsInventory, IsSubscription, about_text, inventory_text, refs_text, subscription_text, zeros_text}
use Rattle.gossip_wire.specs.declared.message.Message.{Message}
use Rattle.gossip_wire.specs.declared.message.Message.TheVariants.{Hello, Node, Inventory, Refs, Subscribe, Ping, Pong}

-- the number of a message's type
abbrev pub type_of : Message → ℕ
type_of (Hello node) = 1
type_of (Node node sig features time alias addresses) = 2
type_of (Inventory node sig rids time) = 4
type_of (Refs node sig rid remotes time) = 6
type_of (Subscribe filter from to) = 8
type_of (Ping pong zeros) = 10
type_of (Pong zeros) = 12

-- who announces, and the signature, in front of what is announced
abbrev pub signed_text : Nid → Sig → List ℕ → List ℕ
signed_text node sig announced = node.0 ++ (sig.0 ++ announced)

-- the fields of a message
abbrev pub body_of : Message → List ℕ
body_of (Hello node) = node.0
body_of (Node node sig features time alias addresses) = signed_text node sig (about_text features time alias addresses)
body_of (Inventory node sig rids time) = signed_text node sig (inventory_text rids time)
body_of (Refs node sig rid remotes time) = signed_text node sig (refs_text rid remotes time)
body_of (Subscribe filter from to) = subscription_text filter from to
body_of (Ping pong zeros) = to_be_bytes w16 pong ++ zeros_text zeros
body_of (Pong zeros) = zeros_text zeros

-- who announces is named by 32 bytes and signs in 64
abbrev pub IsSigned : Nid → Sig → Type 0
IsSigned node sig = IsNid node × IsSig sig

-- a message whose fields keep their limits
abbrev pub IsMessage : Message → Type 0
IsMessage (Hello node) = IsNid node
IsMessage (Node node sig features time alias addresses) = IsSigned node sig × IsAbout features time alias addresses
IsMessage (Inventory node sig rids time) = IsSigned node sig × IsInventory rids time
IsMessage (Refs node sig rid remotes time) = IsSigned node sig × AreRefs rid remotes time
IsMessage (Subscribe filter from to) = IsSubscription filter from to
IsMessage (Ping pong zeros) = (pong ≤ 65531) × (zeros < 2 ^ 16)
IsMessage (Pong zeros) = zeros < 2 ^ 16

-- the type in two bytes, and the fields
abbrev pub message_text : Message → List ℕ
message_text message = to_be_bytes w16 (type_of message) ++ body_of message

-- the bytes are this message
pub record SpellsMessage (message : Message) (bytes : List ℕ) : Type 0 where
  pub fits : IsMessage message
  pub text : bytes ≡ message_text message

-- behind this type the bytes are the fields of this message
pub record IsOf (number : ℕ) (bytes : List ℕ) (message : Message) : Type 0 where
  pub kind : type_of message ≡ number
  pub fits : IsMessage message
  pub text : bytes ≡ body_of message

-- behind this type the bytes are the fields of no message
abbrev pub IsOfNone : ℕ → List ℕ → Type 0
IsOfNone number bytes = (message : Message) → IsOf number bytes message → ⊥
