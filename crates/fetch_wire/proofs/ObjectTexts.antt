-- What the head of an object brings.
use Rattle.std.proofs.Common.{◌≡◌, ℕ, zero, suc, ◌+◌, ◌-◌, ◌<◌, ◌≤◌, ◌==◌, nat_eq, nat_le, nat_lt, ◌||◌, Bool, true, false, if◌then◌else◌, List, [], ◌∷◌, ◌++◌, length, slice_get, slice_index, take, drop, get_or, refl, sym, ap, subst, ◌∙◌, arith, append_assoc, append-nil, length-append, length-drop, inl, inr}
use Rattle.std.specs.Prelude.{Option, None, Some, slice_range, ◌⊎◌}
use Rattle.std.specs.List.{AllByRecursion, flat_map, starts_with}
use Rattle.std.specs.Cmp.Lexicographic.{pointwise, same_text}
use Rattle.std.specs.Int.{byte_at, from_be_bytes, to_be_bytes, w16, w32}
use Rattle.std.proofs.lemmas.Bool.{cases_lt, eqb-false, eqb-true, ltb-false, leb-false, leb-true}
use Rattle.std.proofs.lemmas.Grind.{flat_map-append}
use Rattle.std.proofs.Math.ListN.{get_or-eq_default}
use Rattle.std.proofs.lemmas.List.{get_or-drop, length-take-le, take-append-drop, take_all}
use Rattle.std.proofs.lemmas.Nat.{be_bytes_2, be_bytes_4}
use Rattle.hex.specs.Hex.{IsBytes}
use Rattle.git_object.specs.declared.kind.Kind.{Kind}
use Rattle.git_object.specs.declared.kind.Kind.TheVariants as kinds
use Rattle.rad_base.proofs.EachItem.{each_more}
use Rattle.rad_base.proofs.OneFront.{IsFront, front_of}
use Rattle.rad_base.specs.Order.{IsRising}
use Rattle.rad_base.specs.Sizes.{HasBytes, IsNid, IsOid}
use Rattle.rad_base.specs.declared.names.Nid.{Nid}
use Rattle.rad_base.specs.declared.names.Oid.{Oid}
use Rattle.unit_reader.specs.Spelling.{only_text}
use Rattle.unit_reader.specs.Units.{Verdict, Begins, Ends, Breaks, only}
use Rattle.fetch_wire.specs.Judging.{Said, break_at, head_byte, judge_code, judge_content, judge_count, judge_end, judge_front, judge_head, judge_kind, judge_length, judge_letter, judge_next, judge_object, judge_offer, judge_pair, judge_part, judge_refusal, judge_remote, kind_in, offer_of, onto, with_id, with_remotes}
use Rattle.fetch_wire.specs.SectionReadings.{AreObjects, AreParts, IsObjectPart, begun_of, begun_text}
use Rattle.fetch_wire.specs.Sections.{IsCode, IsContent, IsHead, IsOffer, end_word, kind_byte, object_text, offer_text, part_text}
use Rattle.rad_base.specs.RemoteTexts.{IsPair, pair_text}
use Rattle.fetch_wire.specs.declared.fault.Break.{Break}
use Rattle.fetch_wire.specs.declared.part.Part.{Part}
use Rattle.fetch_wire.specs.declared.part.Part.TheVariants as part
use Rattle.fetch_wire.specs.declared.part.Which.{Which}
use Rattle.fetch_wire.specs.declared.part.Which.TheVariants as which
use Rattle.fetch_wire.specs.declared.units.Next.{Next}
use Rattle.fetch_wire.specs.declared.units.Next.TheVariants as next
use Rattle.fetch_wire.specs.declared.units.SectionUnits.{SectionUnits}
use Rattle.fetch_wire.proofs.SectionsRead.{unit_at}
use Rattle.fetch_wire.proofs.UnitTexts.{ComeFrom, Told, told_end}

-- what comes behind a head of an object that has a content
content_comes : (kind : Kind) (count : ℕ) (parts : List Part) (over : Bool) → ComeFrom (next.Content kind count) parts over → AreObjects parts over
content_comes kind count [] over come = come
content_comes kind count (p ∷ parts) over come = inl come

-- the six bytes of an object's head
six_bytes : (unit : List ℕ) → length unit ≡ 6 → slice_index unit 0 ≡ 79 → unit ≡ 79 ∷ slice_index unit 1 ∷ slice_index unit 2 ∷ slice_index unit 3 ∷ slice_index unit 4 ∷ slice_index unit 5 ∷ []
six_bytes [] e first = absurd (omega arith)
six_bytes (a ∷ []) e first = absurd (omega arith)
six_bytes (a ∷ b ∷ []) e first = absurd (omega arith)
six_bytes (a ∷ b ∷ c ∷ []) e first = absurd (omega arith)
six_bytes (a ∷ b ∷ c ∷ d ∷ []) e first = absurd (omega arith)
six_bytes (a ∷ b ∷ c ∷ d ∷ f ∷ []) e first = absurd (omega arith)
six_bytes (a ∷ b ∷ c ∷ d ∷ f ∷ g ∷ []) e first = ap (λ (x : ℕ). x ∷ b ∷ c ∷ d ∷ f ∷ g ∷ []) first
six_bytes (a ∷ b ∷ c ∷ d ∷ f ∷ g ∷ h ∷ rest) e first = absurd (omega arith)

-- the byte of a kind
kind_is : (k : ℕ) (kind : Kind) → kind_in k ≡ Some kind → k ≡ kind_byte kind
kind_is k kind e = by_tests (k == 1) (k == 2) (k == 3) (k == 4) refl refl refl refl e
  where
    same : (other : Kind) → Some other ≡ Some kind → other ≡ kind
    same other is = cc is

    by_tests : (a b c d : Bool) → (k == 1) ≡ a → (k == 2) ≡ b → (k == 3) ≡ c → (k == 4) ≡ d
        → if◌then◌else◌ {A = Option Kind} a (Some kinds.Commit) (if◌then◌else◌ {A = Option Kind} b (Some kinds.Tree) (if◌then◌else◌ {A = Option Kind} c (Some kinds.Blob) (if◌then◌else◌ {A = Option Kind} d (Some kinds.Tag) None))) ≡ Some kind
        → k ≡ kind_byte kind
    by_tests true b c d ea eb ec ed is = eqb-true k 1 ea ∙ ap kind_byte (same kinds.Commit is)
    by_tests false true c d ea eb ec ed is = eqb-true k 2 eb ∙ ap kind_byte (same kinds.Tree is)
    by_tests false false true d ea eb ec ed is = eqb-true k 3 ec ∙ ap kind_byte (same kinds.Blob is)
    by_tests false false false true ea eb ec ed is = eqb-true k 4 ed ∙ ap kind_byte (same kinds.Tag is)
    by_tests false false false false ea eb ec ed is = cc is

-- the head of an object, by its length
told_length : (p : ℕ) (id : Oid) (remotes : List (Nid × Oid)) (unit : List ℕ) (kind : Kind) (count : ℕ) → unit ≡ 79 ∷ kind_byte kind ∷ to_be_bytes w32 count
    → Told (unit_at p next.Part id remotes) unit (judge_length kind (unit_at p next.Part id remotes) count)
told_length p id remotes unit kind count text = by_tests (nat_lt 33554432 count) (count == 0) refl refl
  where
    positive : (n : ℕ) → (n ≡ 0 → ⊥) → 0 < n
    positive zero none = absurd (none refl)
    positive (suc n) none = omega arith

    by_tests : (a b : Bool) → nat_lt 33554432 count ≡ a → (count == 0) ≡ b
        → Told (unit_at p next.Part id remotes) unit
        (if◌then◌else◌ {A = Said} a (Breaks (break_at (unit_at p next.Part id remotes) 6))
        (if◌then◌else◌ {A = Said} b (Ends (Some (part.Object kind [])) (onto (unit_at p next.Part id remotes) 6 next.Part)) (Ends None (onto (unit_at p next.Part id remotes) 6 (next.Content kind count)))))
    by_tests true b ea eb = tt
    by_tests false true ea eb = record {
      text = text ∙ ap (λ (n : ℕ). 79 ∷ kind_byte kind ∷ to_be_bytes w32 n) (eqb-true count 0 eb);
      good = tt;
      parts = λ parts over come. inl (((λ i. omega arith), omega arith), come);
    }
    by_tests false false ea eb = record {
      text = text;
      good = let within = ltb-false 33554432 count ea in let some = eqb-false count 0 eb in (positive count some, omega arith);
      parts = λ parts over come. content_comes kind count parts over come;
    }

-- the head of an object
pub told_object : (p : ℕ) (id : Oid) (remotes : List (Nid × Oid)) (unit : List ℕ) → IsBytes unit → slice_index unit 0 ≡ 79
    → Told (unit_at p next.Part id remotes) unit (judge_object (unit_at p next.Part id remotes) unit)
told_object p id remotes unit fits first = by_size (length unit == 6) refl
  where
    count : ℕ
    count = from_be_bytes w32 (slice_index unit 2 ∷ slice_index unit 3 ∷ slice_index unit 4 ∷ slice_index unit 5 ∷ [])

    small : (i : ℕ) → get_or (slice_index unit 2 ∷ slice_index unit 3 ∷ slice_index unit 4 ∷ slice_index unit 5 ∷ []) i 0 < 256
    small i = elim (cases_lt i 4) [
      | inl below ↦ four_small i below
      | inr high ↦ rw (get_or-eq_default (slice_index unit 2 ∷ slice_index unit 3 ∷ slice_index unit 4 ∷ slice_index unit 5 ∷ []) 0 high) (omega arith)
    ]
      where
        four_small : (i : ℕ) → i < 4 → get_or (slice_index unit 2 ∷ slice_index unit 3 ∷ slice_index unit 4 ∷ slice_index unit 5 ∷ []) i 0 < 256
        four_small zero less = fits 2
        four_small (suc zero) less = fits 3
        four_small (suc (suc zero)) less = fits 4
        four_small (suc (suc (suc zero))) less = fits 5
        four_small (suc (suc (suc (suc i)))) less = absurd (omega arith)

    by_kind : (o : Option Kind) → kind_in (slice_index unit 1) ≡ o → length unit ≡ 6 → Told (unit_at p next.Part id remotes) unit (judge_kind o (unit_at p next.Part id remotes) count)
    by_kind None e size = tt
    by_kind (Some kind) e size =
        told_length p id remotes unit kind count
        (six_bytes unit size first ∙ (ap (λ (x : ℕ). 79 ∷ x ∷ slice_index unit 2 ∷ slice_index unit 3 ∷ slice_index unit 4 ∷ slice_index unit 5 ∷ []) (kind_is (slice_index unit 1) kind e)
        ∙ ap (λ (xs : List ℕ). 79 ∷ kind_byte kind ∷ xs) (sym (be_bytes_4 (slice_index unit 2 ∷ slice_index unit 3 ∷ slice_index unit 4 ∷ slice_index unit 5 ∷ []) count refl small refl))))

    by_size : (b : Bool) → (length unit == 6) ≡ b
        → Told (unit_at p next.Part id remotes) unit (if◌then◌else◌ {A = Said} b (judge_kind (kind_in (slice_index unit 1)) (unit_at p next.Part id remotes) count) Begins)
    by_size true e = by_kind (kind_in (slice_index unit 1)) refl (eqb-true (length unit) 6 e)
    by_size false e = tt

-- the unit of an object or of the end word
pub told_part : (p : ℕ) (id : Oid) (remotes : List (Nid × Oid)) (unit : List ℕ) → IsBytes unit → Told (unit_at p next.Part id remotes) unit (judge_part (unit_at p next.Part id remotes) unit)
told_part p id remotes unit fits = by_first (slice_index unit 0 == 79) refl
  where
    by_first : (b : Bool) → (slice_index unit 0 == 79) ≡ b
        → Told (unit_at p next.Part id remotes) unit (if◌then◌else◌ {A = Said} b (judge_object (unit_at p next.Part id remotes) unit) (judge_end (unit_at p next.Part id remotes) unit))
    by_first true e = told_object p id remotes unit fits (eqb-true (slice_index unit 0) 79 e)
    by_first false e = told_end p id remotes unit
