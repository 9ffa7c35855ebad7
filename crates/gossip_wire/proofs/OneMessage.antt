-- Bytes begin with at most one message.
use Rattle.std.proofs.Common.{◌≡◌, ℕ, ◌<◌, ◌^◌, List, [], ◌++◌, length, get_or, drop, replicate, refl, sym, ap, ◌∙◌, append_assoc, arith, w16, w64}
use Rattle.std.specs.Int.{to_be_bytes}
use Rattle.std.specs.List.{flat_map}
use Rattle.rad_base.specs.RemoteTexts.{IsPair, pair_text}
use Rattle.rad_base.specs.declared.names.Nid.{Nid}
use Rattle.rad_base.specs.declared.names.Oid.{Oid}
use Rattle.rad_base.specs.declared.names.Rid.{Rid}
use Rattle.rad_base.specs.declared.names.Sig.{Sig}
use Rattle.rad_base.proofs.BigEndian.{one_two, one_eight}
use Rattle.rad_base.proofs.OneFront.{one_front, one_nid}
use Rattle.rad_base.proofs.RemotesRead.{one_pair}
use Rattle.rad_base.proofs.Texts.{OneInFront, all_one}
use Rattle.gossip_wire.specs.Fields.{AreRefs, IsAbout, IsAddress, IsFilterSize, IsInventory, IsRid, IsSubscription, about_text, addresses_text, inventory_text, refs_text, rid_text, sized, subscription_text, zeros_text}
use Rattle.gossip_wire.specs.Messages.{IsMessage, SpellsMessage, body_of, message_text, signed_text, type_of}
use Rattle.gossip_wire.specs.declared.message.Message.{Message}
use Rattle.gossip_wire.specs.declared.message.Message.TheVariants.{Hello, Node, Inventory, Refs, Subscribe, Ping, Pong}
use Rattle.gossip_wire.proofs.FieldTexts.{one_address, one_rid, one_sized}
use Rattle.gossip_wire.proofs.MessageTexts.{one_signed, type_fits}

-- who announces, the signature, and what stands behind them
signed_regrouped : (node : Nid) (sig : Sig) (announced rest : List ℕ) → signed_text node sig announced ++ rest ≡ signed_text node sig (announced ++ rest)
signed_regrouped node sig announced rest =
    append_assoc node.0 (sig.0 ++ announced) rest ∙ ap (λ (l : List ℕ). node.0 ++ l) (append_assoc sig.0 announced rest)

-- the count of zeros in front is one, and so is what stands behind the zeros
one_zeros : (m n : ℕ) (a b : List ℕ) → m < 2 ^ 16 → n < 2 ^ 16 → zeros_text m ++ a ≡ zeros_text n ++ b → (m ≡ n) × (a ≡ b)
one_zeros m n a b small fits e =
    let one = one_two m n (replicate m 0 ++ a) (replicate n 0 ++ b) small fits e in
    (one.0, (one_front (replicate m 0) (replicate n 0) a b (ap (λ (k : ℕ). length {A = ℕ} (replicate k 0)) one.0) one.1).1)

pub record IsOneAbout (f g t u : ℕ) (x y : List ℕ) (ps qs : List (List ℕ)) (a b : List ℕ) : Type 0 where
  pub features : f ≡ g
  pub time : t ≡ u
  pub alias : x ≡ y
  pub addresses : ps ≡ qs
  pub behind : a ≡ b

one_about : (f g t u : ℕ) (x y : List ℕ) (ps qs : List (List ℕ)) (a b : List ℕ) → IsAbout f t x ps → IsAbout g u y qs
    → about_text f t x ps ++ a ≡ about_text g u y qs ++ b → IsOneAbout f g t u x y ps qs a b
one_about f g t u x y ps qs a b h k e =
    let features = one_eight f g (to_be_bytes w64 t ++ ((sized x ++ addresses_text ps) ++ a)) (to_be_bytes w64 u ++ ((sized y ++ addresses_text qs) ++ b)) h.offers k.offers e in
    let times = one_eight t u ((sized x ++ addresses_text ps) ++ a) ((sized y ++ addresses_text qs) ++ b) h.when k.when features.1 in
    let aliases = one_sized x y (addresses_text ps ++ a) (addresses_text qs ++ b)
    (sym (append_assoc (sized x) (addresses_text ps) a) ∙ times.1 ∙ append_assoc (sized y) (addresses_text qs) b) in
    let counts : length ps ≡ length qs = ap (λ (l : List ℕ). get_or l 0 0) aliases.1 in
    let texts : flat_map sized ps ++ a ≡ flat_map sized qs ++ b = ap (λ (l : List ℕ). drop 1 l) aliases.1 in
    let items = all_one IsAddress sized one_address ps qs a b counts h.places.each k.places.each texts in
    record { features = features.0; time = times.0; alias = aliases.0; addresses = items.0; behind = items.1 }

pub record IsOneInventory (xs ys : List Rid) (t u : ℕ) (a b : List ℕ) : Type 0 where
  pub rids : xs ≡ ys
  pub time : t ≡ u
  pub behind : a ≡ b

one_inventory : (xs ys : List Rid) (t u : ℕ) (a b : List ℕ) → IsInventory xs t → IsInventory ys u → inventory_text xs t ++ a ≡ inventory_text ys u ++ b → IsOneInventory xs ys t u a b
one_inventory xs ys t u a b h k e =
    let counts = one_two (length xs) (length ys) ((flat_map rid_text xs ++ to_be_bytes w64 t) ++ a) ((flat_map rid_text ys ++ to_be_bytes w64 u) ++ b) (omega (arith, h.few)) (omega (arith, k.few)) e in
    let items = all_one IsRid rid_text one_rid xs ys (to_be_bytes w64 t ++ a) (to_be_bytes w64 u ++ b) counts.0 h.each k.each
    (sym (append_assoc (flat_map rid_text xs) (to_be_bytes w64 t) a) ∙ counts.1 ∙ append_assoc (flat_map rid_text ys) (to_be_bytes w64 u) b) in
    let times = one_eight t u a b h.when k.when items.1 in
    record { rids = items.0; time = times.0; behind = times.1 }

pub record IsOneRefs (r s : Rid) (xs ys : List (Nid × Oid)) (t u : ℕ) (a b : List ℕ) : Type 0 where
  pub rid : r ≡ s
  pub remotes : xs ≡ ys
  pub time : t ≡ u
  pub behind : a ≡ b

one_refs : (r s : Rid) (xs ys : List (Nid × Oid)) (t u : ℕ) (a b : List ℕ) → AreRefs r xs t → AreRefs s ys u → refs_text r xs t ++ a ≡ refs_text s ys u ++ b → IsOneRefs r s xs ys t u a b
one_refs r s xs ys t u a b h k e =
    let left = to_be_bytes w16 (length xs) ++ (flat_map pair_text xs ++ to_be_bytes w64 t) in
    let right = to_be_bytes w16 (length ys) ++ (flat_map pair_text ys ++ to_be_bytes w64 u) in
    let rids = one_rid r s (left ++ a) (right ++ b) h.rid k.rid (sym (append_assoc r.0.0 left a) ∙ e ∙ append_assoc s.0.0 right b) in
    let counts = one_two (length xs) (length ys) ((flat_map pair_text xs ++ to_be_bytes w64 t) ++ a) ((flat_map pair_text ys ++ to_be_bytes w64 u) ++ b) (omega (arith, h.few)) (omega (arith, k.few)) rids.1 in
    let items = all_one IsPair pair_text one_pair xs ys (to_be_bytes w64 t ++ a) (to_be_bytes w64 u ++ b) counts.0 h.each k.each
    (sym (append_assoc (flat_map pair_text xs) (to_be_bytes w64 t) a) ∙ counts.1 ∙ append_assoc (flat_map pair_text ys) (to_be_bytes w64 u) b) in
    let times = one_eight t u a b h.when k.when items.1 in
    record { rid = rids.0; remotes = items.0; time = times.0; behind = times.1 }

pub record IsOneSubscription (x y : List ℕ) (f g t u : ℕ) (a b : List ℕ) : Type 0 where
  pub filter : x ≡ y
  pub first : f ≡ g
  pub last : t ≡ u
  pub behind : a ≡ b

size_fits : (n : ℕ) → IsFilterSize n → n < 2 ^ 16
size_fits n h = omega (arith, h)

one_subscription : (x y : List ℕ) (f g t u : ℕ) (a b : List ℕ) → IsSubscription x f t → IsSubscription y g u → subscription_text x f t ++ a ≡ subscription_text y g u ++ b
    → IsOneSubscription x y f g t u a b
one_subscription x y f g t u a b h k e =
    let left = to_be_bytes w64 f ++ to_be_bytes w64 t in
    let right = to_be_bytes w64 g ++ to_be_bytes w64 u in
    let counts = one_two (length x) (length y) ((x ++ left) ++ a) ((y ++ right) ++ b) (size_fits (length x) h.size) (size_fits (length y) k.size) e in
    let filters = one_front x y (left ++ a) (right ++ b) counts.0 (sym (append_assoc x left a) ∙ counts.1 ∙ append_assoc y right b) in
    let firsts = one_eight f g (to_be_bytes w64 t ++ a) (to_be_bytes w64 u ++ b) h.first k.first filters.1 in
    let lasts = one_eight t u a b h.last k.last firsts.1 in
    record { filter = filters.0; first = firsts.0; last = lasts.0; behind = lasts.1 }

-- of messages of one type the one in front is one
one_body : (m n : Message) (a b : List ℕ) → IsMessage m → IsMessage n → type_of m ≡ type_of n → body_of m ++ a ≡ body_of n ++ b → (m ≡ n) × (a ≡ b)
one_body (Hello m) (Hello n) a b h k e f =
    let one = one_nid m n a b h k f in
    (ap Hello one.0, one.1)
one_body (Node m r f t x ps) (Node n s g u y qs) a b h k e q =
    let signed = one_signed m n r s (about_text f t x ps ++ a) (about_text g u y qs ++ b) h.0 k.0
    (sym (signed_regrouped m r (about_text f t x ps) a) ∙ q ∙ signed_regrouped n s (about_text g u y qs) b) in
    let about = one_about f g t u x y ps qs a b h.1 k.1 signed.behind in
    ((λ i. Node (signed.node i) (signed.sig i) (about.features i) (about.time i) (about.alias i) (about.addresses i)), about.behind)
one_body (Inventory m r xs t) (Inventory n s ys u) a b h k e q =
    let signed = one_signed m n r s (inventory_text xs t ++ a) (inventory_text ys u ++ b) h.0 k.0
    (sym (signed_regrouped m r (inventory_text xs t) a) ∙ q ∙ signed_regrouped n s (inventory_text ys u) b) in
    let one = one_inventory xs ys t u a b h.1 k.1 signed.behind in
    ((λ i. Inventory (signed.node i) (signed.sig i) (one.rids i) (one.time i)), one.behind)
one_body (Refs m r v xs t) (Refs n s w ys u) a b h k e q =
    let signed = one_signed m n r s (refs_text v xs t ++ a) (refs_text w ys u ++ b) h.0 k.0
    (sym (signed_regrouped m r (refs_text v xs t) a) ∙ q ∙ signed_regrouped n s (refs_text w ys u) b) in
    let one = one_refs v w xs ys t u a b h.1 k.1 signed.behind in
    ((λ i. Refs (signed.node i) (signed.sig i) (one.rid i) (one.remotes i) (one.time i)), one.behind)
one_body (Subscribe x f t) (Subscribe y g u) a b h k e q =
    let one = one_subscription x y f g t u a b h k q in
    ((λ i. Subscribe (one.filter i) (one.first i) (one.last i)), one.behind)
one_body (Ping p m) (Ping q n) a b h k e f =
    let one = one_two p q (zeros_text m ++ a) (zeros_text n ++ b) (omega (arith, h.0)) (omega (arith, k.0)) f in
    let zeros = one_zeros m n a b h.1 k.1 one.1 in
    ((λ i. Ping (one.0 i) (zeros.0 i)), zeros.1)
one_body (Pong m) (Pong n) a b h k e f =
    let zeros = one_zeros m n a b h k f in
    (ap Pong zeros.0, zeros.1)
one_body m n a b h k e f = absurd (omega (arith, e))

-- no message begins another
pub one_in_front : OneInFront IsMessage message_text
one_in_front m n a b h k e =
    let one = one_two (type_of m) (type_of n) (body_of m ++ a) (body_of n ++ b) (type_fits m) (type_fits n) e in
    one_body m n a b h k one.0 one.1

-- bytes are at most one message
pub one_message : (bytes : List ℕ) (m n : Message) → SpellsMessage m bytes → SpellsMessage n bytes → m ≡ n
one_message bytes m n h k = (one_in_front m n [] [] h.fits k.fits (ap (λ (l : List ℕ). l ++ []) (sym h.text ∙ k.text))).0

-- what is written reads back
pub read_back : (m n : Message) → IsMessage m → SpellsMessage n (message_text m) → n ≡ m
read_back m n fits s = one_message (message_text m) n m s (record { fits = fits; text = refl })
