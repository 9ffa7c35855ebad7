-- What the head of an identity section brings.
use Rattle.std.proofs.Common.{◌≡◌, ℕ, zero, suc, ◌+◌, ◌-◌, ◌<◌, ◌≤◌, ◌==◌, nat_eq, nat_le, nat_lt, ◌||◌, Bool, true, false, if◌then◌else◌, List, [], ◌∷◌, ◌++◌, length, slice_get, slice_index, take, drop, get_or, refl, sym, ap, subst, ◌∙◌, arith, append_assoc, append-nil, length-append, length-drop, inl, inr}
use Rattle.std.specs.Prelude.{Option, None, Some, slice_range, ◌⊎◌}
use Rattle.std.specs.List.{AllByRecursion, flat_map, starts_with}
use Rattle.std.specs.Cmp.Lexicographic.{pointwise, same_text}
use Rattle.std.specs.Int.{byte_at, from_be_bytes, to_be_bytes, w16, w32}
use Rattle.std.proofs.lemmas.Bool.{cases_lt, eqb-false, eqb-true, ltb-false, leb-false, leb-true}
use Rattle.std.proofs.lemmas.Grind.{flat_map-append}
use Rattle.std.proofs.Math.ListN.{get_or-eq_default}
use Rattle.std.proofs.lemmas.List.{get_or-drop, length-take-le, drop-drop, take-append-drop, take_all}
use Rattle.std.proofs.lemmas.Nat.{be_bytes_2, be_bytes_4}
use Rattle.hex.specs.Hex.{IsBytes}
use Rattle.git_object.specs.declared.kind.Kind.{Kind}
use Rattle.git_object.specs.declared.kind.Kind.TheVariants as kinds
use Rattle.rad_base.proofs.EachItem.{each_more}
use Rattle.rad_base.specs.Order.{is_above, nid_cmp, node_of}
use Rattle.rad_base.proofs.Rising.{above, rises_more}
use Rattle.rad_base.proofs.OneFront.{IsFront, front_of}
use Rattle.rad_base.specs.Order.{IsRising}
use Rattle.rad_base.specs.Sizes.{HasBytes, IsNid, IsOid}
use Rattle.rad_base.specs.declared.names.Nid.{Nid}
use Rattle.rad_base.specs.declared.names.Oid.{Oid}
use Rattle.unit_reader.specs.Spelling.{only_text}
use Rattle.unit_reader.specs.Units.{Verdict, Begins, Ends, Breaks, only}
use Rattle.fetch_wire.specs.Judging.{Said, break_at, head_byte, judge_code, judge_content, judge_count, judge_end, judge_front, judge_head, judge_kind, judge_length, judge_letter, judge_next, judge_object, judge_offer, judge_pair, judge_part, judge_refusal, judge_remote, kind_in, offer_of, onto, with_id, with_remotes}
use Rattle.fetch_wire.specs.SectionReadings.{AreObjects, AreParts, IsObjectPart, begun_of, begun_text}
use Rattle.fetch_wire.specs.Sections.{IsCode, IsContent, IsHead, IsOffer, end_word, kind_byte, object_text, offer_text, part_text}
use Rattle.rad_base.specs.RemoteTexts.{IsPair, pair_text}
use Rattle.fetch_wire.specs.declared.fault.Break.{Break}
use Rattle.fetch_wire.specs.declared.part.Part.{Part}
use Rattle.fetch_wire.specs.declared.part.Part.TheVariants as part
use Rattle.fetch_wire.specs.declared.part.Which.{Which}
use Rattle.fetch_wire.specs.declared.part.Which.TheVariants as which
use Rattle.fetch_wire.specs.declared.units.Next.{Next}
use Rattle.fetch_wire.specs.declared.units.Next.TheVariants as next
use Rattle.fetch_wire.specs.declared.units.SectionUnits.{SectionUnits}
use Rattle.fetch_wire.proofs.SectionsRead.{unit_at}
use Rattle.fetch_wire.proofs.UnitTexts.{ComeFrom, IsBegunOffer, Told, behind_fits, told_letter, told_refusal, two_bytes}

-- bytes in their two parts
pub cut : (n : ℕ) (bytes : List ℕ) → n ≤ length bytes → IsBytes bytes → IsFront n bytes (take n bytes) (drop n bytes)
cut n bytes enough fits = front_of n bytes (take n bytes) (drop n bytes) enough fits refl refl

-- the first byte of some bytes, and the others
first_of_some : (bytes : List ℕ) → 0 < length bytes → bytes ≡ slice_index bytes 0 ∷ drop 1 bytes
first_of_some [] some = absurd (omega arith)
first_of_some (b ∷ bytes) some = refl

-- the two bytes behind 21
last_two : (bytes : List ℕ) → length bytes ≡ 23 → drop 21 bytes ≡ slice_index bytes 21 ∷ slice_index bytes 22 ∷ []
last_two bytes size =
    let left : length (drop 21 bytes) ≡ 2 = omega (arith, length-drop 21 bytes) in
    two_bytes (drop 21 bytes) left
    ∙ (ap (λ (x : ℕ). x ∷ slice_index (drop 21 bytes) 1 ∷ []) (get_or-drop 21 bytes 0 0)
    ∙ ap (λ (x : ℕ). slice_index bytes 21 ∷ x ∷ []) (get_or-drop 21 bytes 1 0))

-- the 23 bytes of the first unit of an offer
first_unit_is : (unit : List ℕ) → length unit ≡ 23 → IsBytes unit → slice_index unit 0 ≡ 73
    → (unit ≡ 73 ∷ (slice_range unit 1 21 ++ (slice_index unit 21 ∷ slice_index unit 22 ∷ []))) × HasBytes 20 (slice_range unit 1 21)
first_unit_is unit size fits first =
    let some : 0 < length unit = omega arith in
    let left : length (drop 1 unit) ≡ 22 = omega (arith, length-drop 1 unit) in
    let front = cut 20 (drop 1 unit) (omega arith) (behind_fits 1 unit fits) in (
      first_of_some unit some ∙ (ap (λ (x : ℕ). x ∷ drop 1 unit) first
          ∙ ap (λ (xs : List ℕ). 73 ∷ xs) (front.split ∙ ap (λ (xs : List ℕ). slice_range unit 1 21 ++ xs) (drop-drop 20 1 unit ∙ last_two unit size))),
      front.whole,
    )

pub two_small : (a b : ℕ) → a < 256 → b < 256 → (i : ℕ) → get_or (a ∷ b ∷ []) i 0 < 256
two_small a b fa fb zero = fa
two_small a b fa fb (suc zero) = fb
two_small a b fa fb (suc (suc i)) = omega arith

-- what comes behind the first unit of an offer that has remotes
offer_comes : (left : ℕ) (parts : List Part) (over : Bool) → ComeFrom (next.Remote left) parts over → AreParts which.Identity parts over
offer_comes left [] over come = come
offer_comes left (p ∷ parts) over come = inl come

some_more : (left m : ℕ) (parts : List Part) (over : Bool) → ComeFrom (next.Remote left) parts over → ComeFrom (next.Remote m) parts over
some_more left m [] over come = come
some_more left m (p ∷ parts) over come = come

-- the first unit of an offer, by its count
told_count : (p : ℕ) (old id : Oid) (unit : List ℕ) (count : ℕ) → IsOid id → unit ≡ 73 ∷ (id.0 ++ to_be_bytes w16 count)
    → Told (unit_at p (next.Head which.Identity) old []) unit (judge_count (unit_at p (next.Head which.Identity) old []) id count)
told_count p old id unit count is text = by_tests (nat_lt 1024 count) (count == 0) refl refl
  where
    positive : (n : ℕ) → (n ≡ 0 → ⊥) → 1 ≤ n
    positive zero none = absurd (none refl)
    positive (suc n) none = omega arith

    by_tests : (a b : Bool) → nat_lt 1024 count ≡ a → (count == 0) ≡ b
        → Told (unit_at p (next.Head which.Identity) old []) unit
        (if◌then◌else◌ {A = Said} a (Breaks (break_at (unit_at p (next.Head which.Identity) old []) 23))
        (if◌then◌else◌ {A = Said} b (Ends (Some (offer_of (with_id (unit_at p (next.Head which.Identity) old []) id) [])) (onto (with_id (unit_at p (next.Head which.Identity) old []) id) 23 next.Part))
        (Ends None (onto (with_id (unit_at p (next.Head which.Identity) old []) id) 23 (next.Remote count)))))
    by_tests true b ea eb = tt
    by_tests false true ea eb = record {
      text = text ∙ (ap (λ (n : ℕ). 73 ∷ (id.0 ++ to_be_bytes w16 n)) (eqb-true count 0 eb) ∙ sym (append-nil (offer_text (record { id = id; remotes = [] }))));
      good = tt;
      parts = λ parts over come. inl (record { id = is; few = omega arith; each = tt; rising = tt }, come);
    }
    by_tests false false ea eb = record {
      text = let same : count ≡ 0 + count = omega arith in text ∙ ap (λ (n : ℕ). 73 ∷ (id.0 ++ to_be_bytes w16 n)) same;
      good = record {
        some = positive count (eqb-false count 0 eb);
        few = let within = ltb-false 1024 count ea in omega arith;
        is_id = is;
        each = tt;
        rising = tt;
      };
      parts = λ parts over come. offer_comes count parts over come;
    }

-- the first unit of an offer
told_offer : (p : ℕ) (old : Oid) (unit : List ℕ) → IsBytes unit → slice_index unit 0 ≡ 73
    → Told (unit_at p (next.Head which.Identity) old []) unit (judge_offer (unit_at p (next.Head which.Identity) old []) unit)
told_offer p old unit fits first = by_size (length unit == 23) refl
  where
    by_size : (b : Bool) → (length unit == 23) ≡ b
        → Told (unit_at p (next.Head which.Identity) old []) unit
        (if◌then◌else◌ {A = Said} b (judge_count (unit_at p (next.Head which.Identity) old []) (record { 0 = slice_range unit 1 21 }) (from_be_bytes w16 (slice_index unit 21 ∷ slice_index unit 22 ∷ []))) Begins)
    by_size true e =
        let parts = first_unit_is unit (eqb-true (length unit) 23 e) fits first in
        told_count p old (record { 0 = slice_range unit 1 21 }) unit (from_be_bytes w16 (slice_index unit 21 ∷ slice_index unit 22 ∷ [])) parts.1
        (parts.0 ∙ ap (λ (xs : List ℕ). 73 ∷ (slice_range unit 1 21 ++ xs))
        (sym (be_bytes_2 (slice_index unit 21 ∷ slice_index unit 22 ∷ []) (from_be_bytes w16 (slice_index unit 21 ∷ slice_index unit 22 ∷ [])) refl
        (two_small (slice_index unit 21) (slice_index unit 22) (fits 21) (fits 22)) refl)))
    by_size false e = tt

-- the head of a section, or a refusal
pub told_front : (w : Which) (p : ℕ) (id : Oid) (unit : List ℕ) → IsBytes unit → Told (unit_at p (next.Head w) id []) unit (judge_front w (unit_at p (next.Head w) id []) unit)
told_front w p id unit fits = by_first (slice_index unit 0 == 82) (slice_index unit 0 == head_byte w) refl refl
  where
    by_which : (w : Which) → slice_index unit 0 ≡ head_byte w → Told (unit_at p (next.Head w) id []) unit (judge_head w (unit_at p (next.Head w) id []) unit)
    by_which which.Identity first = told_offer p id unit fits first
    by_which which.Sigs first = told_letter which.Sigs part.SigsHead 83 p id unit first refl tt
    by_which which.Tips first = told_letter which.Tips part.TipsHead 68 p id unit first refl tt

    by_first : (a b : Bool) → (slice_index unit 0 == 82) ≡ a → (slice_index unit 0 == head_byte w) ≡ b
        → Told (unit_at p (next.Head w) id []) unit
        (if◌then◌else◌ {A = Said} a (judge_refusal (unit_at p (next.Head w) id []) unit)
        (if◌then◌else◌ {A = Said} b (judge_head w (unit_at p (next.Head w) id []) unit) (Breaks (break_at (unit_at p (next.Head w) id []) (length unit)))))
    by_first true b ea eb = told_refusal w p id unit (eqb-true (slice_index unit 0) 82 ea)
    by_first false true ea eb = by_which w (eqb-true (slice_index unit 0) (head_byte w) eb)
    by_first false false ea eb = tt

-- one remote more in the text of an offer
text_more : (id : Oid) (remotes : List (Nid × Oid)) (pair : Nid × Oid) (unit : List ℕ) (n m : ℕ) → unit ≡ pair_text pair → n ≡ m
    → (73 ∷ (id.0 ++ (to_be_bytes w16 n ++ flat_map pair_text remotes))) ++ unit ≡ 73 ∷ (id.0 ++ (to_be_bytes w16 m ++ flat_map pair_text (remotes ++ pair ∷ [])))
text_more id remotes pair unit n m is same =
    let pairs : flat_map pair_text remotes ++ unit ≡ flat_map pair_text (remotes ++ pair ∷ []) =
    ap (λ (xs : List ℕ). flat_map pair_text remotes ++ xs) (is ∙ sym (append-nil (pair_text pair))) ∙ sym (flat_map-append pair_text remotes (pair ∷ [])) in
    ap (λ (xs : List ℕ). 73 ∷ xs)
    (append_assoc id.0 (to_be_bytes w16 n ++ flat_map pair_text remotes) unit
    ∙ ap (λ (xs : List ℕ). id.0 ++ xs) (append_assoc (to_be_bytes w16 n) (flat_map pair_text remotes) unit
    ∙ (ap (λ (xs : List ℕ). to_be_bytes w16 n ++ xs) pairs ∙ ap (λ (k : ℕ). to_be_bytes w16 k ++ flat_map pair_text (remotes ++ pair ∷ [])) same)))

-- a remote, by its key
told_pair : (p left : ℕ) (id : Oid) (remotes : List (Nid × Oid)) (unit : List ℕ) (pair : Nid × Oid) → IsBegunOffer left id remotes → IsPair pair → unit ≡ pair_text pair
    → Told (unit_at p (next.Remote left) id remotes) unit (judge_pair (unit_at p (next.Remote left) id remotes) left pair.0 pair.1)
told_pair p left id remotes unit pair good is text = by_tests (is_above remotes pair.0) (nat_le left 1) refl refl
  where
    longer : length (remotes ++ pair ∷ []) ≡ length remotes + 1
    longer = length-append remotes (pair ∷ [])

    by_tests : (a b : Bool) → is_above remotes pair.0 ≡ a → nat_le left 1 ≡ b
        → Told (unit_at p (next.Remote left) id remotes) unit
        (if◌then◌else◌ {A = Said} a (if◌then◌else◌ {A = Said} b
        (Ends (Some (offer_of (unit_at p (next.Remote left) id remotes) (remotes ++ pair ∷ []))) (onto (with_remotes (unit_at p (next.Remote left) id remotes) []) 52 next.Part))
        (Ends None (onto (with_remotes (unit_at p (next.Remote left) id remotes) (remotes ++ pair ∷ [])) 52 (next.Remote (left - 1)))))
        (Breaks (break_at (unit_at p (next.Remote left) id remotes) 52)))
    by_tests true true ea eb =
        let one = leb-true left 1 eb in
        let some = good.some in
        let few = good.few in
        let size = longer in
        record {
          text = text_more id remotes pair unit (length remotes + left) (length (remotes ++ pair ∷ [])) text (omega arith) ∙ sym (append-nil (offer_text (record { id = id; remotes = remotes ++ pair ∷ [] })));
          good = tt;
          parts = λ parts over come. (
            record {
              id = good.is_id;
              few = omega arith;
              each = each_more IsPair remotes pair good.each is;
              rising = rises_more node_of nid_cmp remotes pair good.rising (above remotes pair.0 ea);
            },
            come,
          );
        }
    by_tests true false ea eb =
        let one = leb-false left 1 eb in
        let few = good.few in
        let size = longer in
        record {
          text = text_more id remotes pair unit (length remotes + left) (length (remotes ++ pair ∷ []) + (left - 1)) text (omega arith);
          good = record {
            some = omega arith;
            few = omega arith;
            is_id = good.is_id;
            each = each_more IsPair remotes pair good.each is;
            rising = rises_more node_of nid_cmp remotes pair good.rising (above remotes pair.0 ea);
          };
          parts = λ parts over come. some_more (left - 1) left parts over come;
        }
    by_tests false b ea eb = tt

-- a remote
pub told_remote : (p left : ℕ) (id : Oid) (remotes : List (Nid × Oid)) (unit : List ℕ) → IsBegunOffer left id remotes → IsBytes unit
    → Told (unit_at p (next.Remote left) id remotes) unit (judge_remote left (unit_at p (next.Remote left) id remotes) unit)
told_remote p left id remotes unit good fits = by_size (length unit == 52) refl
  where
    by_size : (b : Bool) → (length unit == 52) ≡ b
        → Told (unit_at p (next.Remote left) id remotes) unit
        (if◌then◌else◌ {A = Said} b (judge_pair (unit_at p (next.Remote left) id remotes) left (record { 0 = slice_range unit 0 32 }) (record { 0 = slice_range unit 32 52 })) Begins)
    by_size true e =
        let size : length unit ≡ 52 = eqb-true (length unit) 52 e in
        let left_size : length (drop 32 unit) ≡ 20 = omega (arith, length-drop 32 unit) in
        let front = cut 32 unit (omega arith) fits in
        let back = cut 20 (drop 32 unit) (omega arith) (behind_fits 32 unit fits) in
        let all : slice_range unit 32 52 ≡ drop 32 unit = take_all 20 (drop 32 unit) (omega arith) in
        told_pair p left id remotes unit (record { 0 = slice_range unit 0 32 }, record { 0 = slice_range unit 32 52 }) good (front.whole, back.whole)
        (front.split ∙ ap (λ (xs : List ℕ). slice_range unit 0 32 ++ xs) (sym all))
    by_size false e = tt
