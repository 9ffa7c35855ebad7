-- An announcement is short.
use Rattle.std.proofs.Common.{◌≡◌, ℕ, ◌*◌, ◌+◌, ◌≤◌, List, [], ◌∷◌, ◌++◌, length, refl, arith, length-append}
use Rattle.std.specs.Int.{to_be_bytes, w16, w64}
use Rattle.std.specs.List.{AllByRecursion, flat_map}
use Rattle.rad_base.specs.RemoteTexts.{pair_text}
use Rattle.rad_base.specs.declared.names.Nid.{Nid}
use Rattle.rad_base.specs.declared.names.Rid.{Rid}
use Rattle.rad_base.specs.declared.names.Sig.{Sig}
use Rattle.gossip_wire.specs.Fields.{IsAddress, IsRid, about_text, addresses_text, inventory_text, refs_text, rid_text, sized}
use Rattle.gossip_wire.specs.Messages.{IsSigned, signed_text}
use Rattle.gossip_wire.specs.declared.message.Message.{Message}
use Rattle.gossip_wire.specs.declared.message.Message.TheVariants.{Hello, Node, Inventory, Refs, Subscribe, Ping, Pong}
use Rattle.announcements.specs.Announcements.{IsAnnouncement}
use Rattle.entry_bodies.specs.Bodies.{heard_text}
use Rattle.entry_bodies.proofs.Bodies.{pair_size}

addresses_size : (addresses : List (List ℕ)) → AllByRecursion IsAddress addresses → length (flat_map sized addresses) ≤ 256 * length addresses
addresses_size [] h = omega (arith)
addresses_size (x ∷ xs) h =
    let rest = addresses_size xs h.1 in
    omega (arith, rest, h.0.short, length-append (sized x) (flat_map sized xs))

rids_size : (rids : List Rid) → AllByRecursion IsRid rids → length (flat_map rid_text rids) ≡ 20 * length rids
rids_size [] h = refl
rids_size (x ∷ xs) h =
    let rest = rids_size xs h.1 in
    omega (arith, rest, h.0.size, length-append (rid_text x) (flat_map rid_text xs))

-- what is signed, by what is announced
signed_size : (node : Nid) (sig : Sig) (text : List ℕ) → IsSigned node sig → length (signed_text node sig text) ≡ 96 + length text
signed_size node sig text h = omega (arith, h.0.size, h.1.size, length-append node.0 (sig.0 ++ text), length-append sig.0 text)

-- the body of an announcement fits a record of a journal
pub heard_fits : (message : Message) → IsAnnouncement message → length (heard_text message) ≤ 34000000
heard_fits (Hello node) is = absurd is.announces
heard_fits (Node node sig features time alias addresses) is =
    let about = is.fits.1 in
    omega (
      arith,
      signed_size node sig (about_text features time alias addresses) is.fits.0,
      about.name.short,
      about.places.few,
      addresses_size addresses about.places.each,
      length-append (to_be_bytes w64 features) (to_be_bytes w64 time ++ (sized alias ++ addresses_text addresses)),
      length-append (to_be_bytes w64 time) (sized alias ++ addresses_text addresses),
      length-append (sized alias) (addresses_text addresses),
    )
heard_fits (Inventory node sig rids time) is =
    let listed = is.fits.1 in
    omega (
      arith,
      signed_size node sig (inventory_text rids time) is.fits.0,
      listed.few,
      rids_size rids listed.each,
      length-append (flat_map rid_text rids) (to_be_bytes w64 time),
    )
heard_fits (Refs node sig rid remotes time) is =
    let listed = is.fits.1 in
    omega (
      arith,
      signed_size node sig (refs_text rid remotes time) is.fits.0,
      listed.rid.size,
      listed.few,
      pair_size remotes listed.each,
      length-append rid.0.0 (to_be_bytes w16 (length remotes) ++ (flat_map pair_text remotes ++ to_be_bytes w64 time)),
      length-append (flat_map pair_text remotes) (to_be_bytes w64 time),
    )
heard_fits (Subscribe filter from to) is = absurd is.announces
heard_fits (Ping pong zeros) is = absurd is.announces
heard_fits (Pong zeros) is = absurd is.announces
