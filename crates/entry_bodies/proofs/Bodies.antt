-- Bodies can be read in one way.
use Rattle.std.proofs.Common.{◌≡◌, ℕ, ◌+◌, ◌*◌, ◌<◌, ◌≤◌, ◌^◌, List, [], ◌∷◌, ◌++◌, length, get_or, drop, refl, sym, ap, ⊎_elim, ◌∙◌, arith, length-append, w16, w32}
use Rattle.std.specs.Int.{to_be_bytes}
use Rattle.std.specs.List.{AllByRecursion, flat_map}
use Rattle.std.proofs.lemmas.List.Sums.{sum_by-cons}
use Rattle.rad_base.specs.declared.names.Nid.{Nid}
use Rattle.rad_base.specs.declared.names.Oid.{Oid}
use Rattle.rad_base.specs.declared.names.Rid.{Rid}
use Rattle.rad_base.specs.Sizes.{IsOid}
use Rattle.rad_base.proofs.OneFront.{one_oid}
use Rattle.commit_graph.specs.Objects.{Object}
use Rattle.rad_base.specs.RemoteTexts.{AreRemotes, IsPair, pair_text}
use Rattle.repo_entries.specs.Batches.{AreContents, IsBatch, content_size}
use Rattle.gossip_wire.specs.Messages.{message_text}
use Rattle.gossip_wire.specs.declared.message.Message.{Message}
use Rattle.gossip_wire.proofs.OneMessage.{one_message}
use Rattle.announcements.specs.Announcements.{IsAnnouncement}
use Rattle.repo_entries.specs.Items.{Item, claim, put, install, heard, missed, refused}
use Rattle.entry_bodies.specs.Bodies.{FitsInstall, FitsPut, SpellsItem, held_text, install_size, install_text, put_size, put_text}
use Rattle.entry_bodies.specs.Lists.{SpellObjects}
use Rattle.entry_bodies.specs.Readers.{SaysNone}
use Rattle.entry_bodies.proofs.Contents.{IsHeld, one_object}
use Rattle.rad_base.proofs.RemotesRead.{one_pair}
use Rattle.rad_base.proofs.BigEndian.{one_four, one_two}
use Rattle.rad_base.proofs.Texts.{all_one}

-- ---- what stands behind a repository

-- the repository and what stands behind it are one
one_rid : (r s : Rid) (a b : List ℕ) → IsOid r.0 → IsOid s.0 → r.0.0 ++ a ≡ s.0.0 ++ b → (r ≡ s) × (a ≡ b)
one_rid r s a b hr hs e =
    let one = one_oid r.0 s.0 a b hr hs e in
    ((λ i. record { 0 = one.0 i }), one.1)

-- the count of objects, and the objects, of a put that these bytes spell behind their first
pub put_counted : (rid : Oid) (rest more : List ℕ) (count : ℕ) (r : Rid) (objects : List Object) → IsOid rid → count < 2 ^ 32
    → rest ≡ rid.0 ++ (to_be_bytes w32 count ++ more) → FitsPut r objects → 1 ∷ rest ≡ put_text r objects → SpellObjects more count objects
put_counted rid rest more count r objects is small h fits e =
    let one = one_oid rid r.0 (to_be_bytes w32 count ++ more) (to_be_bytes w32 (length objects) ++ flat_map held_text objects) is fits.rid
    (sym h ∙ ap (λ (l : List ℕ). drop 1 l) e) in
    let numbers = one_four count (length objects) more (flat_map held_text objects) small (omega (arith, fits.few)) one.1 in
    record { each = fits.each; count = sym numbers.0; text = numbers.1 }

-- the count of remotes, and the remotes, of an install that these bytes spell behind their first
pub install_counted : (rid id : Oid) (rest more : List ℕ) (count : ℕ) (r : Rid) (i : Oid) (remotes : List (Nid × Oid)) → IsOid rid → IsOid id → count < 2 ^ 16
    → rest ≡ rid.0 ++ (id.0 ++ (to_be_bytes w16 count ++ more)) → FitsInstall r i remotes → 2 ∷ rest ≡ install_text r i remotes → AreRemotes more count remotes
install_counted rid id rest more count r i remotes is is_id small h fits e =
    let one = one_oid rid r.0 (id.0 ++ (to_be_bytes w16 count ++ more)) (i.0 ++ (to_be_bytes w16 (length remotes) ++ flat_map pair_text remotes)) is fits.rid
    (sym h ∙ ap (λ (l : List ℕ). drop 1 l) e) in
    let two = one_oid id i (to_be_bytes w16 count ++ more) (to_be_bytes w16 (length remotes) ++ flat_map pair_text remotes) is_id fits.id one.1 in
    let numbers = one_two count (length remotes) more (flat_map pair_text remotes) small (omega (arith, fits.few)) two.1 in
    record { each = fits.each; rising = fits.rising; count = sym numbers.0; text = numbers.1 }

-- no body, where the count is out of its bounds or the objects are none
pub no_put : (rid : Oid) (rest more : List ℕ) (count : ℕ) → IsOid rid → count < 2 ^ 32 → rest ≡ rid.0 ++ (to_be_bytes w32 count ++ more)
    → ((objects : List Object) → 1 ≤ count → count ≤ 1024 → SpellObjects more count objects → ⊥) → SaysNone 1 rest
no_put rid rest more count is small h none (claim r caller) s = s.is
no_put rid rest more count is small h none (put r objects caller) s =
    let are = put_counted rid rest more count r objects is small h s.is.0 s.text in
    none objects (omega (arith, are.count, s.is.0.some)) (omega (arith, are.count, s.is.0.few)) are
no_put rid rest more count is small h none (install r i remotes caller) s = absurd (omega (arith, ap (λ (l : List ℕ). get_or l 0 0) s.text))
no_put rid rest more count is small h none (heard m caller) s = absurd (omega (arith, ap (λ (l : List ℕ). get_or l 0 0) s.text))
no_put rid rest more count is small h none (missed r left caller) s = s.is
no_put rid rest more count is small h none (refused r why caller) s = s.is

pub no_install : (rid id : Oid) (rest more : List ℕ) (count : ℕ) → IsOid rid → IsOid id → count < 2 ^ 16 → rest ≡ rid.0 ++ (id.0 ++ (to_be_bytes w16 count ++ more))
    → ((remotes : List (Nid × Oid)) → count ≤ 1024 → AreRemotes more count remotes → ⊥) → SaysNone 2 rest
no_install rid id rest more count is is_id small h none (claim r caller) s = s.is
no_install rid id rest more count is is_id small h none (put r objects caller) s = absurd (omega (arith, ap (λ (l : List ℕ). get_or l 0 0) s.text))
no_install rid id rest more count is is_id small h none (install r i remotes caller) s =
    let are = install_counted rid id rest more count r i remotes is is_id small h s.is.0 s.text in
    none remotes (omega (arith, are.count, s.is.0.few)) are
no_install rid id rest more count is is_id small h none (heard m caller) s = absurd (omega (arith, ap (λ (l : List ℕ). get_or l 0 0) s.text))
no_install rid id rest more count is is_id small h none (missed r left caller) s = s.is
no_install rid id rest more count is is_id small h none (refused r why caller) s = s.is

-- no announcement, where the bytes are none of those that are
pub no_heard : (rest : List ℕ) → ((message : Message) → IsAnnouncement message → rest ≡ message_text message → ⊥) → SaysNone 3 rest
no_heard rest none (claim r caller) s = s.is
no_heard rest none (put r objects caller) s = absurd (omega (arith, ap (λ (l : List ℕ). get_or l 0 0) s.text))
no_heard rest none (install r i remotes caller) s = absurd (omega (arith, ap (λ (l : List ℕ). get_or l 0 0) s.text))
no_heard rest none (heard message caller) s = none message s.is.0 (ap (λ (l : List ℕ). drop 1 l) s.text)
no_heard rest none (missed r left caller) s = s.is
no_heard rest none (refused r why caller) s = s.is

-- ---- one entry

one_put : (r s : Rid) (xs ys : List Object) → FitsPut r xs → FitsPut s ys → put_text r xs ≡ put_text s ys → (r ≡ s) × (xs ≡ ys)
one_put r s xs ys hr hs e =
    let rids = one_rid r s (to_be_bytes w32 (length xs) ++ flat_map held_text xs) (to_be_bytes w32 (length ys) ++ flat_map held_text ys) hr.rid hs.rid
    (ap (λ (l : List ℕ). drop 1 l) e) in
    let numbers = one_four (length xs) (length ys) (flat_map held_text xs) (flat_map held_text ys) (omega (arith, hr.few)) (omega (arith, hs.few)) rids.1 in
    (rids.0, (all_one IsHeld held_text one_object xs ys [] [] numbers.0 hr.each hs.each (ap (λ (l : List ℕ). l ++ []) numbers.1)).0)

pub record IsOneInstall (r s : Rid) (i j : Oid) (xs ys : List (Nid × Oid)) : Type 0 where
  pub rid : r ≡ s
  pub id : i ≡ j
  pub remotes : xs ≡ ys

one_install : (r s : Rid) (i j : Oid) (xs ys : List (Nid × Oid)) → FitsInstall r i xs → FitsInstall s j ys → install_text r i xs ≡ install_text s j ys
    → IsOneInstall r s i j xs ys
one_install r s i j xs ys hr hs e =
    let rids = one_rid r s (i.0 ++ (to_be_bytes w16 (length xs) ++ flat_map pair_text xs)) (j.0 ++ (to_be_bytes w16 (length ys) ++ flat_map pair_text ys)) hr.rid hs.rid
    (ap (λ (l : List ℕ). drop 1 l) e) in
    let ids = one_oid i j (to_be_bytes w16 (length xs) ++ flat_map pair_text xs) (to_be_bytes w16 (length ys) ++ flat_map pair_text ys) hr.id hs.id rids.1 in
    let numbers = one_two (length xs) (length ys) (flat_map pair_text xs) (flat_map pair_text ys) (omega (arith, hr.few)) (omega (arith, hs.few)) ids.1 in
    record {
      rid = rids.0;
      id = ids.0;
      remotes = (all_one IsPair pair_text one_pair xs ys [] [] numbers.0 hr.each hs.each (ap (λ (l : List ℕ). l ++ []) numbers.1)).0;
    }

-- bytes are the body of at most one entry
pub one_item : (bytes : List ℕ) (a b : Item) → SpellsItem a bytes → SpellsItem b bytes → a ≡ b
one_item bytes (claim r m) b h k = absurd h.is
one_item bytes (missed r l m) b h k = absurd h.is
one_item bytes (refused r w m) b h k = absurd h.is
one_item bytes (put r xs m) (claim s n) h k = absurd k.is
one_item bytes (put r xs m) (heard y n) h k = absurd (omega (arith, ap (λ (l : List ℕ). get_or l 0 0) (sym h.text ∙ k.text)))
one_item bytes (put r xs m) (missed s l n) h k = absurd k.is
one_item bytes (put r xs m) (refused s w n) h k = absurd k.is
one_item bytes (put r xs m) (install s j ys n) h k = absurd (omega (arith, ap (λ (l : List ℕ). get_or l 0 0) (sym h.text ∙ k.text)))
one_item bytes (put r xs m) (put s ys n) h k =
    let one = one_put r s xs ys h.is.0 k.is.0 (sym h.text ∙ k.text) in
    let callers : m ≡ n = h.is.1 ∙ sym k.is.1 in
    (λ i. put (one.0 i) (one.1 i) (callers i))
one_item bytes (install r i xs m) (claim s n) h k = absurd k.is
one_item bytes (install r i xs m) (heard y n) h k = absurd (omega (arith, ap (λ (l : List ℕ). get_or l 0 0) (sym h.text ∙ k.text)))
one_item bytes (install r i xs m) (missed s l n) h k = absurd k.is
one_item bytes (install r i xs m) (refused s w n) h k = absurd k.is
one_item bytes (install r i xs m) (put s ys n) h k = absurd (omega (arith, ap (λ (l : List ℕ). get_or l 0 0) (sym h.text ∙ k.text)))
one_item bytes (install r i xs m) (install s j ys n) h k =
    let one = one_install r s i j xs ys h.is.0 k.is.0 (sym h.text ∙ k.text) in
    let callers : m ≡ n = h.is.1 ∙ sym k.is.1 in
    (λ t. install (one.rid t) (one.id t) (one.remotes t) (callers t))
one_item bytes (heard x m) (claim s n) h k = absurd k.is
one_item bytes (heard x m) (missed s l n) h k = absurd k.is
one_item bytes (heard x m) (refused s w n) h k = absurd k.is
one_item bytes (heard x m) (put s ys n) h k = absurd (omega (arith, ap (λ (l : List ℕ). get_or l 0 0) (sym h.text ∙ k.text)))
one_item bytes (heard x m) (install s j ys n) h k = absurd (omega (arith, ap (λ (l : List ℕ). get_or l 0 0) (sym h.text ∙ k.text)))
one_item bytes (heard x m) (heard y n) h k =
    let one : x ≡ y =
    one_message (message_text x) x y (record { fits = h.is.0.fits; text = refl }) (record { fits = k.is.0.fits; text = ap (λ (l : List ℕ). drop 1 l) (sym h.text ∙ k.text) }) in
    let callers : m ≡ n = h.is.1 ∙ sym k.is.1 in
    (λ t. heard (one t) (callers t))

-- ---- sizes

held_size : (objects : List Object) → length (flat_map held_text objects) ≡ 5 * length objects + content_size objects
held_size [] = refl
held_size (x ∷ xs) =
    let rest = held_size xs in
    let sum : content_size (x ∷ xs) ≡ length x.1 + content_size xs = sum_by-cons (λ (o : Object). length o.1) x xs in
    omega (arith, rest, sum, length-append x.1 (flat_map held_text xs))

pub pair_size : (remotes : List (Nid × Oid)) → AllByRecursion IsPair remotes → length (flat_map pair_text remotes) ≡ 52 * length remotes
pair_size [] h = refl
pair_size (x ∷ xs) h =
    let rest = pair_size xs h.1 in
    omega (arith, rest, length-append (pair_text x) (flat_map pair_text xs), length-append x.0.0 x.1.0, h.0.0.size, h.0.1.size)

few_bytes : (objects : List Object) → IsBatch objects → 5 * length objects + content_size objects ≤ 33900000
few_bytes objects batch = ⊎_elim (λ one. alone objects one batch.each) (λ within. omega (arith, within.few, within.small)) batch.run.fits
  where
    alone : (objects : List Object) → length objects ≡ 1 → AreContents objects → 5 * length objects + content_size objects ≤ 33900000
    alone [] n each = absurd (omega (arith, n))
    alone (x ∷ []) n each =
        let sum : content_size (x ∷ []) ≡ length x.1 + content_size [] = sum_by-cons (λ (o : Object). length o.1) x [] in
        let none : content_size [] ≡ 0 = refl in
        omega (arith, sum, none, each.0)
    alone (x ∷ y ∷ xs) n each = absurd (omega (arith, n))

-- a put has its size
pub put_sized : (rid : Rid) (objects : List Object) → length rid.0.0 ≡ 20 → length (put_text rid objects) ≡ put_size objects
put_sized rid objects twenty =
    omega (arith, twenty, held_size objects, length-append rid.0.0 (to_be_bytes w32 (length objects) ++ flat_map held_text objects))

-- so has an install
pub install_sized : (rid : Rid) (id : Oid) (remotes : List (Nid × Oid)) → length rid.0.0 ≡ 20 → length id.0 ≡ 20 → length (flat_map pair_text remotes) ≡ 52 * length remotes
    → length (install_text rid id remotes) ≡ install_size remotes
install_sized rid id remotes twenty more size =
    omega (
      arith,
      twenty,
      more,
      size,
      length-append rid.0.0 (id.0 ++ (to_be_bytes w16 (length remotes) ++ flat_map pair_text remotes)),
      length-append id.0 (to_be_bytes w16 (length remotes) ++ flat_map pair_text remotes),
    )

-- a put fits a record of a journal
pub put_fits : (rid : Rid) (objects : List Object) → length rid.0.0 ≡ 20 → IsBatch objects → length (put_text rid objects) ≤ 34000000
put_fits rid objects twenty batch =
    let few = few_bytes objects batch in
    omega (arith, few, twenty, held_size objects, length-append rid.0.0 (to_be_bytes w32 (length objects) ++ flat_map held_text objects))

-- so does an install
pub install_fits : (rid : Rid) (id : Oid) (remotes : List (Nid × Oid)) → length rid.0.0 ≡ 20 → length id.0 ≡ 20 → length (flat_map pair_text remotes) ≤ 52 * length remotes
    → length remotes ≤ 1024 → length (install_text rid id remotes) ≤ 34000000
install_fits rid id remotes twenty more size few =
    omega (
      arith,
      few,
      twenty,
      more,
      size,
      length-append rid.0.0 (id.0 ++ (to_be_bytes w16 (length remotes) ++ flat_map pair_text remotes)),
      length-append id.0 (to_be_bytes w16 (length remotes) ++ flat_map pair_text remotes),
    )
