-- What is announced can be read in one way.
use Rattle.std.proofs.Common.{◌≡◌, ℕ, ◌<◌, ◌≤◌, ◌^◌, List, ◌++◌, length, refl, sym, ap, ◌∙◌, arith, length-append, w16, w64}
use Rattle.std.specs.Int.{to_be_bytes}
use Rattle.std.specs.List.{flat_map}
use Rattle.rad_base.specs.Lists.{AreItems}
use Rattle.rad_base.specs.RemoteTexts.{AreRemotes, pair_text}
use Rattle.rad_base.specs.Sizes.{IsOid}
use Rattle.rad_base.specs.declared.names.Nid.{Nid}
use Rattle.rad_base.specs.declared.names.Oid.{Oid}
use Rattle.rad_base.specs.declared.names.Rid.{Rid}
use Rattle.rad_base.proofs.BigEndian.{one_two, one_eight}
use Rattle.rad_base.proofs.OneFront.{one_oid}
use Rattle.gossip_wire.specs.Fields.{AreRefs, IsAbout, IsInventory, IsRid, about_text, addresses_text, inventory_text, refs_text, rid_text, sized}
use Rattle.gossip_wire.proofs.MessageTexts.{one_before}

-- ---- what a node says of itself

-- it has the features and the time at least
pub about_size : (features time : ℕ) (alias : List ℕ) (addresses : List (List ℕ)) → 16 ≤ length (about_text features time alias addresses)
about_size features time alias addresses = omega arith

-- what stands behind the features and the time
pub about_behind : (features time : ℕ) (bytes middle rest : List ℕ) → features < 2 ^ 64 → time < 2 ^ 64 → bytes ≡ to_be_bytes w64 features ++ middle → middle ≡ to_be_bytes w64 time ++ rest
    → (f t : ℕ) (alias : List ℕ) (addresses : List (List ℕ)) → IsAbout f t alias addresses → bytes ≡ about_text f t alias addresses
    → rest ≡ sized alias ++ addresses_text addresses
about_behind features time bytes middle rest small fits h k f t alias addresses is e =
    let one = one_eight features f middle (to_be_bytes w64 t ++ (sized alias ++ addresses_text addresses)) small is.offers (sym h ∙ e) in
    (one_eight time t rest (sized alias ++ addresses_text addresses) fits is.when (sym k ∙ one.1)).1

-- ---- a count, items and the time

-- as many items as were counted stand behind the count, before the time
pub record AreCounted (n : ℕ) (rest : List ℕ) (size : ℕ) (items : List ℕ) (time : ℕ) : Type 0 where
  pub count : n ≡ size
  pub text : rest ≡ items ++ to_be_bytes w64 time

-- the items stand before the last eight bytes
pub items_before : (n size time when : ℕ) (rest before items : List ℕ) → rest ≡ before ++ to_be_bytes w64 when → AreCounted n rest size items time → before ≡ items
items_before n size time when rest before items h are =
    (one_before before items (to_be_bytes w64 when) (to_be_bytes w64 time) refl (sym h ∙ are.text)).0

-- where there are fewer than eight, no time stands there
pub no_time : (n size time : ℕ) (rest items : List ℕ) → length rest < 8 → AreCounted n rest size items time → ⊥
no_time n size time rest items short are = omega (arith, short, ap length are.text, length-append items (to_be_bytes w64 time))

-- ---- which repositories a node has

pub inventory_counted : (count : ℕ) (bytes rest : List ℕ) → count < 2 ^ 16 → bytes ≡ to_be_bytes w16 count ++ rest
    → (rids : List Rid) (time : ℕ) → IsInventory rids time → bytes ≡ inventory_text rids time → AreCounted count rest (length rids) (flat_map rid_text rids) time
inventory_counted count bytes rest small h rids time is e =
    let one = one_two count (length rids) rest (flat_map rid_text rids ++ to_be_bytes w64 time) small (omega (arith, is.few)) (sym h ∙ e) in
    record { count = one.0; text = one.1 }

-- these names are all that stand there
pub are_rids : (count when : ℕ) (bytes rest names : List ℕ) → count < 2 ^ 16 → bytes ≡ to_be_bytes w16 count ++ rest → rest ≡ names ++ to_be_bytes w64 when
    → (rids : List Rid) (time : ℕ) → IsInventory rids time → bytes ≡ inventory_text rids time → AreItems IsRid rid_text names count rids
are_rids count when bytes rest names small h k rids time is e =
    let counted = inventory_counted count bytes rest small h rids time is e in
    record {
      each = is.each;
      count = sym counted.count;
      text = items_before count (length rids) time when rest names (flat_map rid_text rids) k counted;
    }

-- ---- which signed refs of a repository a node has

pub refs_counted : (rid : Oid) (count : ℕ) (bytes middle rest : List ℕ) → IsOid rid → count < 2 ^ 16 → bytes ≡ rid.0 ++ middle → middle ≡ to_be_bytes w16 count ++ rest
    → (name : Rid) (remotes : List (Nid × Oid)) (time : ℕ) → AreRefs name remotes time → bytes ≡ refs_text name remotes time
    → AreCounted count rest (length remotes) (flat_map pair_text remotes) time
refs_counted rid count bytes middle rest is_oid small h k name remotes time is e =
    let behind = (one_oid rid name.0 middle (to_be_bytes w16 (length remotes) ++ (flat_map pair_text remotes ++ to_be_bytes w64 time)) is_oid is.rid (sym h ∙ e)).1 in
    let one = one_two count (length remotes) rest (flat_map pair_text remotes ++ to_be_bytes w64 time) small (omega (arith, is.few)) (sym k ∙ behind) in
    record { count = one.0; text = one.1 }

-- they have the repository and the count at least
pub refs_size : (name : Rid) (remotes : List (Nid × Oid)) (time : ℕ) → AreRefs name remotes time → 30 ≤ length (refs_text name remotes time)
refs_size name remotes time is =
    omega (
      arith,
      is.rid.size,
      length-append name.0.0 (to_be_bytes w16 (length remotes) ++ (flat_map pair_text remotes ++ to_be_bytes w64 time)),
      length-append (flat_map pair_text remotes) (to_be_bytes w64 time),
    )

-- these remotes are all that stand there
pub are_remotes : (rid : Oid) (count when : ℕ) (bytes middle rest pairs : List ℕ) → IsOid rid → count < 2 ^ 16 → bytes ≡ rid.0 ++ middle → middle ≡ to_be_bytes w16 count ++ rest
    → rest ≡ pairs ++ to_be_bytes w64 when
    → (name : Rid) (remotes : List (Nid × Oid)) (time : ℕ) → AreRefs name remotes time → bytes ≡ refs_text name remotes time → AreRemotes pairs count remotes
are_remotes rid count when bytes middle rest pairs is_oid small h k l name remotes time is e =
    let counted = refs_counted rid count bytes middle rest is_oid small h k name remotes time is e in
    record {
      each = is.each;
      rising = is.rising;
      count = sym counted.count;
      text = items_before count (length remotes) time when rest pairs (flat_map pair_text remotes) l counted;
    }
