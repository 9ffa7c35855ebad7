-- Messages can be read in one way.
use Rattle.std.proofs.Common.{◌≡◌, ℕ, ◌+◌, ◌<◌, ◌≤◌, ◌^◌, List, [], ◌∷◌, ◌++◌, length, refl, sym, ap, subst, ◌∙◌, arith, append-nil, length-append, w16, w64}
use Rattle.std.specs.Int.{to_be_bytes}
use Rattle.rad_base.specs.Sizes.{HasBytes, IsNid, IsSig}
use Rattle.rad_base.specs.declared.names.Nid.{Nid}
use Rattle.rad_base.specs.declared.names.Oid.{Oid}
use Rattle.rad_base.specs.declared.names.Rid.{Rid}
use Rattle.rad_base.specs.declared.names.Sig.{Sig}
use Rattle.rad_base.proofs.BigEndian.{one_two}
use Rattle.rad_base.proofs.OneFront.{one_front, one_nid}
use Rattle.gossip_wire.specs.Fields.{AreRefs, IsAbout, IsFilterSize, IsInventory, IsSubscription, about_text, addresses_text, inventory_text, refs_text, sized, subscription_text, zeros_text}
use Rattle.gossip_wire.specs.Messages.{IsOf, IsOfNone, IsSigned, SpellsMessage, body_of, signed_text, type_of}
use Rattle.gossip_wire.specs.declared.message.Message.{Message}
use Rattle.gossip_wire.specs.declared.message.Message.TheVariants.{Hello, Node, Inventory, Refs, Subscribe, Ping, Pong}

-- ---- parts

-- at most one list stands behind, where what follows it has one length
pub one_before : (x y a b : List ℕ) → length a ≡ length b → x ++ a ≡ y ++ b → (x ≡ y) × (a ≡ b)
one_before x y a b size e = one_front x y a b (omega (arith, size, ap length e, length-append x a, length-append y b)) e

-- the signature in front is one
pub one_sig : (x y : Sig) (a b : List ℕ) → IsSig x → IsSig y → x.0 ++ a ≡ y.0 ++ b → (x ≡ y) × (a ≡ b)
one_sig x y a b hx hy e =
    let parts = one_front x.0 y.0 a b (hx.size ∙ sym hy.size) e in
    (ap (λ (bytes : List ℕ). let sig : Sig = record { 0 = bytes } in sig) parts.0, parts.1)

-- who announces is one, the signature is one, and so is what stands behind them
pub record IsOneSigned (m n : Nid) (r s : Sig) (a b : List ℕ) : Type 0 where
  pub node : m ≡ n
  pub sig : r ≡ s
  pub behind : a ≡ b

pub one_signed : (m n : Nid) (r s : Sig) (a b : List ℕ) → IsSigned m r → IsSigned n s → signed_text m r a ≡ signed_text n s b → IsOneSigned m n r s a b
one_signed m n r s a b hm hn e =
    let nodes = one_nid m n (r.0 ++ a) (s.0 ++ b) hm.0 hn.0 e in
    let sigs = one_sig r s a b hm.1 hn.1 nodes.1 in
    record { node = nodes.0; sig = sigs.0; behind = sigs.1 }

-- ---- by the type

pub no_hello : (bytes : List ℕ) → ((node : Nid) → IsNid node → bytes ≡ node.0 → ⊥) → IsOfNone 1 bytes
no_hello bytes none (Hello node) h = none node h.fits h.text
no_hello bytes none m h = absurd (omega (arith, h.kind))

pub no_about : (node : Nid) (sig : Sig) (bytes : List ℕ) → IsSigned node sig
    → ((features time : ℕ) (alias : List ℕ) (addresses : List (List ℕ)) → IsAbout features time alias addresses → bytes ≡ about_text features time alias addresses → ⊥)
    → IsOfNone 2 (signed_text node sig bytes)
no_about node sig bytes is none (Node n s f t alias addresses) h =
    none f t alias addresses h.fits.1 (one_signed node n sig s bytes (about_text f t alias addresses) is h.fits.0 h.text).behind
no_about node sig bytes is none m h = absurd (omega (arith, h.kind))

pub no_inventory : (node : Nid) (sig : Sig) (bytes : List ℕ) → IsSigned node sig
    → ((rids : List Rid) (time : ℕ) → IsInventory rids time → bytes ≡ inventory_text rids time → ⊥) → IsOfNone 4 (signed_text node sig bytes)
no_inventory node sig bytes is none (Inventory n s rids time) h =
    none rids time h.fits.1 (one_signed node n sig s bytes (inventory_text rids time) is h.fits.0 h.text).behind
no_inventory node sig bytes is none m h = absurd (omega (arith, h.kind))

pub no_refs : (node : Nid) (sig : Sig) (bytes : List ℕ) → IsSigned node sig
    → ((rid : Rid) (remotes : List (Nid × Oid)) (time : ℕ) → AreRefs rid remotes time → bytes ≡ refs_text rid remotes time → ⊥)
    → IsOfNone 6 (signed_text node sig bytes)
no_refs node sig bytes is none (Refs n s rid remotes time) h =
    none rid remotes time h.fits.1 (one_signed node n sig s bytes (refs_text rid remotes time) is h.fits.0 h.text).behind
no_refs node sig bytes is none m h = absurd (omega (arith, h.kind))

pub no_subscription : (bytes : List ℕ) → ((filter : List ℕ) (from to : ℕ) → IsSubscription filter from to → bytes ≡ subscription_text filter from to → ⊥)
    → IsOfNone 8 bytes
no_subscription bytes none (Subscribe filter from to) h = none filter from to h.fits h.text
no_subscription bytes none m h = absurd (omega (arith, h.kind))

pub no_ping : (bytes : List ℕ) → ((pong zeros : ℕ) → pong ≤ 65531 → zeros < 2 ^ 16 → bytes ≡ to_be_bytes w16 pong ++ zeros_text zeros → ⊥) → IsOfNone 10 bytes
no_ping bytes none (Ping pong zeros) h = none pong zeros h.fits.0 h.fits.1 h.text
no_ping bytes none m h = absurd (omega (arith, h.kind))

pub no_pong : (bytes : List ℕ) → ((zeros : ℕ) → zeros < 2 ^ 16 → bytes ≡ zeros_text zeros → ⊥) → IsOfNone 12 bytes
no_pong bytes none (Pong zeros) h = none zeros h.fits h.text
no_pong bytes none m h = absurd (omega (arith, h.kind))

-- no announcement stands where nobody signs
pub no_signed : (number : ℕ) (bytes : List ℕ) → 1 < number → number < 8
    → ((node : Nid) (sig : Sig) (rest : List ℕ) → IsSigned node sig → bytes ≡ signed_text node sig rest → ⊥) → IsOfNone number bytes
no_signed number bytes low high none (Node n s f t alias addresses) h = none n s (about_text f t alias addresses) h.fits.0 h.text
no_signed number bytes low high none (Inventory n s rids time) h = none n s (inventory_text rids time) h.fits.0 h.text
no_signed number bytes low high none (Refs n s rid remotes time) h = none n s (refs_text rid remotes time) h.fits.0 h.text
no_signed number bytes low high none m h = absurd (omega (arith, low, high, h.kind))

-- ---- what is read

empty_of : (l : List ℕ) → length l ≡ 0 → l ≡ []
empty_of [] e = refl
empty_of (x ∷ l) e = absurd (omega (arith, e))

-- what a node says of itself, as it was read
pub said : (node : Nid) (sig : Sig) (features time : ℕ) (alias : List ℕ) (addresses : List (List ℕ)) (bytes middle behind after : List ℕ)
    → IsSigned node sig → IsAbout features time alias addresses → bytes ≡ to_be_bytes w64 features ++ middle → middle ≡ to_be_bytes w64 time ++ behind
    → behind ≡ sized alias ++ after → after ≡ addresses_text addresses → IsOf 2 (signed_text node sig bytes) (Node node sig features time alias addresses)
said node sig features time alias addresses bytes middle behind after signed fits a b d e = record {
  kind = refl;
  fits = (signed, fits);
  text = ap (λ (l : List ℕ). signed_text node sig l)
      (a ∙ ap (λ (l : List ℕ). to_be_bytes w64 features ++ l) (b ∙ ap (λ (l : List ℕ). to_be_bytes w64 time ++ l) (d ∙ ap (λ (l : List ℕ). sized alias ++ l) e)));
}

-- the fields of a subscription that were read
pub record ReadsSubscription (size from to : ℕ) (bytes middle filter rest more last : List ℕ) : Type 0 where
  pub count : bytes ≡ to_be_bytes w16 size ++ middle
  pub long : length middle ≡ size + 16
  pub filter_is : middle ≡ filter ++ rest
  pub first : rest ≡ to_be_bytes w64 from ++ more
  pub second : more ≡ to_be_bytes w64 to ++ last

pub subscribed : (size from to : ℕ) (bytes middle filter rest more last : List ℕ) → IsFilterSize size → HasBytes size filter → from < 2 ^ 64 → to < 2 ^ 64
    → ReadsSubscription size from to bytes middle filter rest more last → IsOf 8 bytes (Subscribe filter from to)
subscribed size from to bytes middle filter rest more last good whole small fits r =
    let none : last ≡ [] = empty_of last (omega (arith, r.long, whole.size, ap length r.filter_is, length-append filter rest, ap length r.first, ap length r.second)) in
    let end : more ≡ to_be_bytes w64 to = r.second ∙ ap (λ (l : List ℕ). to_be_bytes w64 to ++ l) none ∙ append-nil (to_be_bytes w64 to) in
    let tail : rest ≡ to_be_bytes w64 from ++ to_be_bytes w64 to = r.first ∙ ap (λ (l : List ℕ). to_be_bytes w64 from ++ l) end in
    record {
      kind = refl;
      fits = record { size = subst IsFilterSize (sym whole.size) good; bytes = whole.fits; first = small; last = fits };
      text =
          r.count ∙ ap (λ (n : ℕ). to_be_bytes w16 n ++ middle) (sym whole.size)
          ∙ ap (λ (l : List ℕ). to_be_bytes w16 (length filter) ++ l) (r.filter_is ∙ ap (λ (l : List ℕ). filter ++ l) tail);
    }

-- ---- the whole

-- a type is a number of two bytes
pub type_fits : (m : Message) → type_of m < 2 ^ 16
type_fits m = elim m as (λ m. type_of m < 2 ^ 16) [
  | Hello node ↦ omega arith
  | Node n s f t alias addresses ↦ omega arith
  | Inventory n s rids time ↦ omega arith
  | Refs n s rid remotes time ↦ omega arith
  | Subscribe filter from to ↦ omega arith
  | Ping pong zeros ↦ omega arith
  | Pong zeros ↦ omega arith
]

-- behind its type a message is its fields
pub of_spelled : (number : ℕ) (bytes rest : List ℕ) (m : Message) → number < 2 ^ 16 → bytes ≡ to_be_bytes w16 number ++ rest → SpellsMessage m bytes → IsOf number rest m
of_spelled number bytes rest m small h s =
    let one = one_two number (type_of m) rest (body_of m) small (type_fits m) (sym h ∙ s.text) in
    record { kind = sym one.0; fits = s.fits; text = one.1 }

-- a message that is its fields behind its type is spelled
pub spelled_of : (number : ℕ) (bytes rest : List ℕ) (m : Message) → bytes ≡ to_be_bytes w16 number ++ rest → IsOf number rest m → SpellsMessage m bytes
spelled_of number bytes rest m h is = record {
  fits = is.fits;
  text = h ∙ ap (λ (n : ℕ). to_be_bytes w16 n ++ rest) (sym is.kind) ∙ ap (λ (l : List ℕ). to_be_bytes w16 (type_of m) ++ l) is.text;
}

-- too few bytes are no message
pub no_message_short : (bytes : List ℕ) → length bytes < 2 → (m : Message) → SpellsMessage m bytes → ⊥
no_message_short bytes short m s = omega (arith, short, ap length s.text, length-append (to_be_bytes w16 (type_of m)) (body_of m))
