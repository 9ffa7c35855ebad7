-- What a unit of a section brings: its bytes, and the parts that may come.
use Rattle.std.proofs.Common.{◌≡◌, ℕ, zero, suc, ◌+◌, ◌-◌, ◌<◌, ◌≤◌, ◌==◌, nat_eq, nat_le, nat_lt, ◌||◌, Bool, true, false, if◌then◌else◌, List, [], ◌∷◌, ◌++◌, length, slice_get, slice_index, take, drop, get_or, refl, sym, ap, subst, ◌∙◌, arith, append_assoc, append-nil, length-append, length-drop, inl, inr}
use Rattle.std.specs.Prelude.{Option, None, Some, slice_range, ◌⊎◌}
use Rattle.std.specs.List.{AllByRecursion, flat_map, starts_with}
use Rattle.std.specs.Cmp.Lexicographic.{pointwise, same_text}
use Rattle.std.specs.Int.{byte_at, from_be_bytes, to_be_bytes, w16, w32}
use Rattle.std.proofs.lemmas.Bool.{eqb-true, ltb-false, leb-false, leb-true}
use Rattle.std.proofs.lemmas.Grind.{flat_map-append}
use Rattle.std.proofs.lemmas.List.{get_or-drop, length-take-le, take-append-drop, take_all}
use Rattle.std.proofs.lemmas.Nat.{be_bytes_2, be_bytes_4}
use Rattle.hex.specs.Hex.{IsBytes}
use Rattle.git_object.specs.declared.kind.Kind.{Kind}
use Rattle.git_object.specs.declared.kind.Kind.TheVariants as kinds
use Rattle.rad_base.proofs.EachItem.{each_more}
use Rattle.rad_base.proofs.OneFront.{IsFront, front_of}
use Rattle.rad_base.specs.Order.{IsRising}
use Rattle.rad_base.specs.Sizes.{HasBytes, IsNid, IsOid}
use Rattle.rad_base.specs.declared.names.Nid.{Nid}
use Rattle.rad_base.specs.declared.names.Oid.{Oid}
use Rattle.unit_reader.specs.Spelling.{only_text}
use Rattle.unit_reader.specs.Units.{Verdict, Begins, Ends, Breaks, only}
use Rattle.fetch_wire.specs.Judging.{Said, break_at, head_byte, judge_code, judge_content, judge_count, judge_end, judge_front, judge_head, judge_kind, judge_length, judge_letter, judge_next, judge_object, judge_offer, judge_pair, judge_part, judge_refusal, judge_remote, kind_in, offer_of, onto, with_id, with_remotes}
use Rattle.fetch_wire.specs.SectionReadings.{AreObjects, AreParts, IsObjectPart, begun_of, begun_text}
use Rattle.fetch_wire.specs.Sections.{IsCode, IsContent, IsHead, IsOffer, end_word, kind_byte, object_text, offer_text, part_text}
use Rattle.rad_base.specs.RemoteTexts.{IsPair, pair_text}
use Rattle.fetch_wire.specs.declared.fault.Break.{Break}
use Rattle.fetch_wire.specs.declared.part.Part.{Part}
use Rattle.fetch_wire.specs.declared.part.Part.TheVariants as part
use Rattle.fetch_wire.specs.declared.part.Which.{Which}
use Rattle.fetch_wire.specs.declared.part.Which.TheVariants as which
use Rattle.fetch_wire.specs.declared.units.Next.{Next}
use Rattle.fetch_wire.specs.declared.units.Next.TheVariants as next
use Rattle.fetch_wire.specs.declared.units.SectionUnits.{SectionUnits}
use Rattle.fetch_wire.proofs.SectionsRead.{unit_at}

-- the parts that may come from a unit on, up to the end or not so far
abbrev pub ComeFrom : Next → List Part → Bool → Type 0
ComeFrom (next.Head w) parts over = AreParts w parts over
ComeFrom (next.Remote left) [] over = over ≡ false
ComeFrom (next.Remote left) (p ∷ parts) over = IsHead which.Identity p × AreObjects parts over
ComeFrom next.Part parts over = AreObjects parts over
ComeFrom (next.Content kind count) [] over = over ≡ false
ComeFrom (next.Content kind count) (p ∷ parts) over = IsObjectPart p × AreObjects parts over
ComeFrom next.Nothing parts over = (parts ≡ []) × (over ≡ true)

-- an offer of which so many remotes are left
pub record IsBegunOffer (left : ℕ) (id : Oid) (remotes : List (Nid × Oid)) : Type 0 where
  pub some : 1 ≤ left
  pub few : length remotes + left ≤ 1024
  pub is_id : IsOid id
  pub each : AllByRecursion IsPair remotes
  pub rising : IsRising remotes

-- what holds of a unit that stands next
abbrev pub IsGoodUnit : Next → Oid → List (Nid × Oid) → Type 0
IsGoodUnit (next.Head w) id remotes = remotes ≡ []
IsGoodUnit (next.Remote left) id remotes = IsBegunOffer left id remotes
IsGoodUnit next.Part id remotes = Unit {0}
IsGoodUnit (next.Content kind count) id remotes = (0 < count) × (count ≤ 33554432)
IsGoodUnit next.Nothing id remotes = Unit {0}

abbrev pub IsGood : SectionUnits → Type 0
IsGood units = IsGoodUnit units.next units.id units.remotes

-- a unit brings the text on, to a good unit, and what may come behind it
pub record Brings (s : SectionUnits) (unit : List ℕ) (item : Option Part) (t : SectionUnits) : Type 0 where
  pub text : begun_text s ++ unit ≡ only_text part_text item ++ begun_text t
  pub good : IsGood t
  pub parts : (parts : List Part) (over : Bool) → ComeFrom t.next parts over → ComeFrom s.next (only item ++ parts) over

-- the same of a verdict
abbrev pub Told : SectionUnits → List ℕ → Said → Type 0
Told s unit Begins = Unit {0}
Told s unit (Ends item t) = Brings s unit item t
Told s unit (Breaks broken) = Unit {0}

-- the bytes of a unit of one, two and six
pub one_byte : (unit : List ℕ) → length unit ≡ 1 → unit ≡ slice_index unit 0 ∷ []
one_byte [] e = absurd (omega arith)
one_byte (a ∷ []) e = refl
one_byte (a ∷ b ∷ rest) e = absurd (omega arith)

pub two_bytes : (unit : List ℕ) → length unit ≡ 2 → unit ≡ slice_index unit 0 ∷ slice_index unit 1 ∷ []
two_bytes [] e = absurd (omega arith)
two_bytes (a ∷ []) e = absurd (omega arith)
two_bytes (a ∷ b ∷ []) e = refl
two_bytes (a ∷ b ∷ c ∷ rest) e = absurd (omega arith)

four_bytes : (unit : List ℕ) → length unit ≡ 4 → unit ≡ slice_index unit 0 ∷ slice_index unit 1 ∷ slice_index unit 2 ∷ slice_index unit 3 ∷ []
four_bytes [] e = absurd (omega arith)
four_bytes (a ∷ []) e = absurd (omega arith)
four_bytes (a ∷ b ∷ []) e = absurd (omega arith)
four_bytes (a ∷ b ∷ c ∷ []) e = absurd (omega arith)
four_bytes (a ∷ b ∷ c ∷ d ∷ []) e = refl
four_bytes (a ∷ b ∷ c ∷ d ∷ f ∷ rest) e = absurd (omega arith)

-- bytes behind others are bytes
pub behind_fits : (n : ℕ) (bytes : List ℕ) → IsBytes bytes → IsBytes (drop n bytes)
behind_fits n bytes fits i = rw (get_or-drop n bytes i 0) (fits (n + i))

-- a refusal
pub told_refusal : (w : Which) (p : ℕ) (id : Oid) (unit : List ℕ) → slice_index unit 0 ≡ 82 → Told (unit_at p (next.Head w) id []) unit (judge_refusal (unit_at p (next.Head w) id []) unit)
told_refusal w p id unit first = by_size (length unit == 2) refl
  where
    is_code : (b c : Bool) → (slice_index unit 1 == 1) ≡ b → (slice_index unit 1 == 2) ≡ c → (b || c) ≡ true → IsCode (slice_index unit 1)
    is_code true c eb ec e = inl (eqb-true (slice_index unit 1) 1 eb)
    is_code false true eb ec e = inr (eqb-true (slice_index unit 1) 2 ec)
    is_code false false eb ec e = cc e

    by_code : (b : Bool) → ((slice_index unit 1 == 1) || (slice_index unit 1 == 2)) ≡ b → length unit ≡ 2
        → Told (unit_at p (next.Head w) id []) unit (if◌then◌else◌ {A = Said} b (Ends (Some (part.Refused (slice_index unit 1))) (onto (unit_at p (next.Head w) id []) 2 next.Nothing)) (Breaks (break_at (unit_at p (next.Head w) id []) 2)))
    by_code true e size = record {
      text = two_bytes unit size ∙ ap (λ (x : ℕ). x ∷ slice_index unit 1 ∷ []) first;
      good = tt;
      parts = λ parts over come. inr (is_code (slice_index unit 1 == 1) (slice_index unit 1 == 2) refl refl e, come.0, come.1);
    }
    by_code false e size = tt

    by_size : (b : Bool) → (length unit == 2) ≡ b
        → Told (unit_at p (next.Head w) id []) unit (if◌then◌else◌ {A = Said} b (judge_code (unit_at p (next.Head w) id []) (slice_index unit 1)) Begins)
    by_size true e = by_code ((slice_index unit 1 == 1) || (slice_index unit 1 == 2)) refl (eqb-true (length unit) 2 e)
    by_size false e = tt

-- a head of one letter
pub told_letter : (w : Which) (head : Part) (letter : ℕ) (p : ℕ) (id : Oid) (unit : List ℕ) → slice_index unit 0 ≡ letter → part_text head ≡ letter ∷ [] → IsHead w head
    → Told (unit_at p (next.Head w) id []) unit (judge_letter head (unit_at p (next.Head w) id []) unit)
told_letter w head letter p id unit first text is = by_size (length unit == 1) refl
  where
    by_size : (b : Bool) → (length unit == 1) ≡ b
        → Told (unit_at p (next.Head w) id []) unit (if◌then◌else◌ {A = Said} b (Ends (Some head) (onto (unit_at p (next.Head w) id []) 1 next.Part)) Begins)
    by_size true e = record {
      text = one_byte unit (eqb-true (length unit) 1 e) ∙ (ap (λ (x : ℕ). x ∷ []) first ∙ (sym text ∙ sym (append-nil (part_text head))));
      good = tt;
      parts = λ parts over come. inl (is, come);
    }
    by_size false e = tt

-- the end word
pub told_end : (p : ℕ) (id : Oid) (remotes : List (Nid × Oid)) (unit : List ℕ) → Told (unit_at p next.Part id remotes) unit (judge_end (unit_at p next.Part id remotes) unit)
told_end p id remotes unit = by_word (starts_with nat_eq end_word unit) (length unit == 4) refl refl
  where
    is_word : starts_with nat_eq end_word unit ≡ true → length unit ≡ 4 → unit ≡ end_word
    is_word e size = same_text unit end_word (sym (subst (λ (n : ℕ). pointwise nat_eq unit (take n end_word) ≡ true) size e))

    by_word : (a b : Bool) → starts_with nat_eq end_word unit ≡ a → (length unit == 4) ≡ b
        → Told (unit_at p next.Part id remotes) unit (if◌then◌else◌ {A = Said} a (if◌then◌else◌ {A = Said} b (Ends (Some part.End) (onto (unit_at p next.Part id remotes) 4 next.Nothing)) Begins) (Breaks (break_at (unit_at p next.Part id remotes) (length unit))))
    by_word true true ea eb = record {
      text = is_word ea (eqb-true (length unit) 4 eb);
      good = tt;
      parts = λ parts over come. inr (refl, come.0, come.1);
    }
    by_word true false ea eb = tt
    by_word false b ea eb = tt

-- a content
pub told_content : (p : ℕ) (kind : Kind) (count : ℕ) (id : Oid) (remotes : List (Nid × Oid)) (unit : List ℕ) → (0 < count) × (count ≤ 33554432) → IsBytes unit
    → Told (unit_at p (next.Content kind count) id remotes) unit (judge_content kind count (unit_at p (next.Content kind count) id remotes) unit)
told_content p kind count id remotes unit good fits = by_size (length unit == count) refl
  where
    by_size : (b : Bool) → (length unit == count) ≡ b
        → Told (unit_at p (next.Content kind count) id remotes) unit (if◌then◌else◌ {A = Said} b (Ends (Some (part.Object kind unit)) (onto (unit_at p (next.Content kind count) id remotes) count next.Part)) Begins)
    by_size true e =
        let size = eqb-true (length unit) count e in
        record {
          text = ap (λ (n : ℕ). 79 ∷ kind_byte kind ∷ (to_be_bytes w32 n ++ unit)) (sym size) ∙ sym (append-nil (object_text kind unit));
          good = tt;
          parts = λ parts over come. ((fits, let small = good.1 in omega arith), come);
        }
    by_size false e = tt
