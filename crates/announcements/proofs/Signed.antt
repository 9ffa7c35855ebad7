-- What is signed of an announcement stands in its bytes: the type, and all behind the signature.
use Rattle.std.proofs.Common.{◌≡◌, ℕ, ◌+◌, List, ◌++◌, length, take, drop, refl, sym, ap, ◌∙◌, arith}
use Rattle.std.specs.Int.{to_be_bytes, w16}
use Rattle.std.proofs.lemmas.List.{append_assoc, drop_at, length-append, take_at}
use Rattle.rad_base.specs.declared.names.Nid.{Nid}
use Rattle.rad_base.specs.declared.names.Sig.{Sig}
use Rattle.gossip_wire.specs.Messages.{IsMessage, IsSigned, message_text, type_of}
use Rattle.gossip_wire.specs.declared.message.Message.{Message}
use Rattle.gossip_wire.specs.declared.message.Message.TheVariants.{Hello, Node, Inventory, Refs, Subscribe, Ping, Pong}
use Rattle.announcements.specs.Announcements.{Announces, IsAnnouncement, announced, signed_message}

parts : (kind node sig rest : List ℕ) → length kind ≡ 2 → length node ≡ 32 → length sig ≡ 64
    → take 2 (kind ++ (node ++ (sig ++ rest))) ++ drop 98 (kind ++ (node ++ (sig ++ rest))) ≡ kind ++ rest
parts kind node sig rest two key full =
    let front : take 2 (kind ++ (node ++ (sig ++ rest))) ≡ kind = take_at kind (node ++ (sig ++ rest)) 2 two in
    let again : kind ++ (node ++ (sig ++ rest)) ≡ ((kind ++ node) ++ sig) ++ rest =
    sym (append_assoc (kind ++ node) sig rest ∙ append_assoc kind node (sig ++ rest)) in
    let size : length ((kind ++ node) ++ sig) ≡ 98 = rw (length-append (kind ++ node) sig, length-append kind node, two, key, full) refl in
    let behind : drop 98 (kind ++ (node ++ (sig ++ rest))) ≡ rest = ap (drop 98) again ∙ drop_at ((kind ++ node) ++ sig) rest 98 size in
    rw (front, behind) refl

abbrev Holds : Message → Type 0
Holds message = take 2 (message_text message) ++ drop 98 (message_text message) ≡ signed_message message

by_kind : (message : Message) → IsMessage message → Announces message → Holds message
by_kind (Hello node) fits is = absurd is
by_kind (Node node sig features time alias addresses) fits is =
    parts (to_be_bytes w16 2) node.0 sig.0 (announced (Node node sig features time alias addresses)).text refl fits.0.0.size fits.0.1.size
by_kind (Inventory node sig rids time) fits is =
    parts (to_be_bytes w16 4) node.0 sig.0 (announced (Inventory node sig rids time)).text refl fits.0.0.size fits.0.1.size
by_kind (Refs node sig rid remotes time) fits is =
    parts (to_be_bytes w16 6) node.0 sig.0 (announced (Refs node sig rid remotes time)).text refl fits.0.0.size fits.0.1.size
by_kind (Subscribe filter from to) fits is = absurd is
by_kind (Ping pong zeros) fits is = absurd is
by_kind (Pong zeros) fits is = absurd is

-- the bytes of an announcement without the key and the signature are what is signed
pub signed_part : (message : Message) → IsAnnouncement message
    → take 2 (message_text message) ++ drop 98 (message_text message) ≡ signed_message message
signed_part message is = by_kind message is.fits is.announces
