-- The units of a frame, one behind the other, are its text.
use Rattle.std.proofs.Common.{◌≡◌, ℕ, ◌+◌, ◌-◌, ◌^◌, ◌<◌, ◌≤◌, ◌==◌, nat_lt, nat_eq, if◌then◌else◌, Bool, true, false, List, [], ◌∷◌, ◌++◌, length, get_or, take, refl, sym, ap, subst, ◌∙◌, arith, append_assoc, append-nil, length-append, None, ⊎_elim}
use Rattle.std.specs.Prelude.{Option, IfSome}
use Rattle.std.specs.List.{starts_with}
use Rattle.std.proofs.Common.{length-take-le}
use Rattle.std.proofs.lemmas.Bool.{cases_lt, eqb-true, le-ltb, ltb-false}
use Rattle.std.proofs.lemmas.Bool.Decides.{nat_tests}
use Rattle.std.proofs.Math.Seq.{take-append_seam}
use Rattle.std.specs.Cmp.Lexicographic.{pointwise, same_text}
use Rattle.hex.specs.Hex.{IsBytes}
use Rattle.rad_base.proofs.Varints.{varint_size}
use Rattle.rad_base.proofs.VarintReads.{chunk, reads, reads_back}
use Rattle.rad_base.specs.Varint.{BeginsWithVarint, One, ReadsVarint, Size, Two, Four, Eight, shortest, size_bytes, varint, varint_in}
use Rattle.rad_base.specs.declared.varint.Varint.{Varint}
use Rattle.rad_base.specs.declared.varint.Varint.TheVariants.{Value, Short, Long}
use Rattle.unit_reader.specs.Units.{Begins, Ends, Breaks, FrontsBegin}
use Rattle.unit_reader.specs.Spelling.{only_text}
use Rattle.gossip_wire.specs.Frames.{magic, stream_text}
use Rattle.gossip_wire.specs.FramesSpelled.{begun_of}
use Rattle.gossip_wire.specs.Judging.{Said, further, judge, judge_field, judge_length, judge_magic, judge_payload, judge_stream, onto, stream_kind}
use Rattle.gossip_wire.specs.declared.units.Field.{Field}
use Rattle.gossip_wire.specs.declared.units.Field.TheVariants as fields
use Rattle.gossip_wire.specs.declared.units.FrameUnits.{FrameUnits}
use Rattle.gossip_wire.specs.declared.units.FrameBreak.TheVariants.{BadKind, BadMagic, TooLong}
use Rattle.gossip_wire.specs.declared.units.UnreadFrame.{UnreadFrame}

abbrev pub begun_text : FrameUnits → List ℕ
begun_text units = begun_of units.next

-- the bytes of a frame whose payload was not looked at
abbrev pub unread_text : UnreadFrame → List ℕ
unread_text unread = magic ++ stream_text unread.stream unread.payload

-- a stream and a payload within their limits
pub record IsUnread (unread : UnreadFrame) : Type 0 where
  pub small : unread.stream < 2 ^ 62
  pub short : length unread.payload ≤ 65535

-- numbers that were read are within their limits, and a payload that is waited for is not empty
abbrev pub IsGoodField : Field → Type 0
IsGoodField fields.Magic = Unit {0}
IsGoodField fields.Stream = Unit {0}
IsGoodField (fields.Length stream) = stream < 2 ^ 62
IsGoodField (fields.Payload stream count) = (stream < 2 ^ 62) × (0 < count) × (count ≤ 65535)

abbrev pub IsGood : FrameUnits → Type 0
IsGood units = IsGoodField units.next

-- what a verdict says of bytes: they are the texts of what it completes and of what is begun
pub record IsTold (bytes : List ℕ) (item : Option UnreadFrame) (t : FrameUnits) : Type 0 where
  pub text : bytes ≡ only_text unread_text item ++ begun_text t
  pub good : IsGoodField t.next
  pub within : IfSome item IsUnread

abbrev pub Told : List ℕ → Said → Type 0
Told bytes Begins = Unit {0}
Told bytes (Ends item t) = IsTold bytes item t
Told bytes (Breaks fault) = Unit {0}

is_magic : (unit : List ℕ) → starts_with nat_eq magic unit ≡ true → length unit ≡ 4 → unit ≡ magic
is_magic unit e size = same_text unit magic (sym (subst (λ (n : ℕ). pointwise nat_eq unit (take n magic) ≡ true) size e))

told_magic : (s : FrameUnits) (unit : List ℕ) → Told unit (judge_magic s unit)
told_magic s unit = by_test (starts_with nat_eq magic unit) (length unit == 4) refl refl
  where
    by_test : (a b : Bool) → starts_with nat_eq magic unit ≡ a → (length unit == 4) ≡ b
        → Told unit (if a then (if b then Ends None (onto s 4 fields.Stream) else Begins) else Breaks (BadMagic (further s.field (length unit - 1))))
    by_test true true ea eb = record { text = is_magic unit ea (eqb-true (length unit) 4 eb); good = tt; within = tt }
    by_test true false ea eb = tt
    by_test false b ea eb = tt

some_bytes : (s : Size) → 0 < size_bytes s
some_bytes One = omega arith
some_bytes Two = omega arith
some_bytes Four = omega arith
some_bytes Eight = omega arith

-- a number has a byte at least
pub varint_some : (n : ℕ) → 0 < length (varint n)
varint_some n = let some = some_bytes (shortest n) in omega (arith, varint_size (shortest n) n refl)

-- a number that is read of the bytes, and of no front of them, is all of them
number_rest : (unit : List ℕ) (n : ℕ) (rest : List ℕ) → n < 2 ^ 62 → unit ≡ varint n ++ rest → IsBytes unit
    → ((k m size : ℕ) → 0 < k → k < length unit → varint_in (take k unit) ≡ Value m size → ⊥) → unit ≡ varint n
number_rest unit n [] small text fits fronts = text ∙ append-nil (varint n)
number_rest unit n (x ∷ rest) small text fits fronts =
    let size : length unit ≡ length (varint n) + length (x ∷ rest) = ap length text ∙ length-append (varint n) (x ∷ rest) in
    let some = varint_some n in
    let cut : take (length (varint n)) unit ≡ varint n = ap (λ (l : List ℕ). take (length (varint n)) l) text ∙ take-append_seam (varint n) (x ∷ rest) in
    let same : take (length (varint n)) unit ≡ varint n ++ [] = cut ∙ sym (append-nil (varint n)) in
    let bytes : IsBytes (varint n ++ []) = λ i. subst (λ (l : List ℕ). get_or l i 0 < 256) same ((chunk (length (varint n)) unit fits (omega arith)).small i) in
    let whole : varint_in (varint n) ≡ Value n (length (varint n)) = subst (λ (l : List ℕ). varint_in l ≡ Value n (length (varint n))) (append-nil (varint n)) (reads_back n [] small bytes) in
    absurd (fronts (length (varint n)) n (length (varint n)) some (omega arith) (ap varint_in cut ∙ whole))

-- a number that was read, and is all of the bytes
pub record IsWhole (unit : List ℕ) (n : ℕ) : Type 0 where
  pub small : n < 2 ^ 62
  pub text : unit ≡ varint n

whole_number : (unit : List ℕ) (n size : ℕ) → IsBytes unit → varint_in unit ≡ Value n size
    → ((k m count : ℕ) → 0 < k → k < length unit → varint_in (take k unit) ≡ Value m count → ⊥) → IsWhole unit n
whole_number unit n size fits is fronts =
    let r : BeginsWithVarint unit n size = subst (λ (v : Varint). ReadsVarint unit v) is (reads unit fits) in
    record { small = r.fits; text = number_rest unit n r.rest r.fits r.text fits fronts }

-- a look at a number that is whole says more than that it begins
stream_says : (s : FrameUnits) (m size : ℕ) (b : Bool) → if◌then◌else◌ {A = Said} b (Breaks (BadKind s.field)) (Ends None (onto s size (fields.Length m))) ≡ Begins → ⊥
stream_says s m size true e = cc e
stream_says s m size false e = cc e

told_stream : (s : FrameUnits) (unit : List ℕ) (v : Varint) → IsBytes unit → ((k : ℕ) → 0 < k → k < length unit → judge_stream s (varint_in (take k unit)) ≡ Begins)
    → varint_in unit ≡ v → Told (magic ++ unit) (judge_stream s v)
told_stream s unit Short fits fronts is = tt
told_stream s unit Long fits fronts is = tt
told_stream s unit (Value n size) fits fronts is = by_kind (stream_kind n == 3)
  where
    whole : IsWhole unit n
    whole = whole_number unit n size fits is (λ k m count some within e. stream_says s m count _ (subst (λ (v : Varint). judge_stream s v ≡ Begins) e (fronts k some within)))

    by_kind : (b : Bool) → Told (magic ++ unit) (if b then Breaks (BadKind s.field) else Ends None (onto s size (fields.Length n)))
    by_kind true = tt
    by_kind false = record { text = ap (λ (l : List ℕ). magic ++ l) whole.text; good = whole.small; within = tt }

-- a frame from its parts
frame_made : (stream count : ℕ) (payload : List ℕ) → length payload ≡ count
    → (magic ++ (varint stream ++ varint count)) ++ payload ≡ (magic ++ stream_text stream payload) ++ []
frame_made stream count payload ln =
    append_assoc magic (varint stream ++ varint count) payload
    ∙ (ap (λ (l : List ℕ). magic ++ l) (append_assoc (varint stream) (varint count) payload)
    ∙ (ap (λ (n : ℕ). magic ++ (varint stream ++ (varint n ++ payload))) (sym ln)
    ∙ sym (append-nil (magic ++ stream_text stream payload))))

told_payload : (u : FrameUnits) (stream count : ℕ) (payload : List ℕ) → stream < 2 ^ 62 → count ≤ 65535 → length payload ≡ count
    → Told ((magic ++ (varint stream ++ varint count)) ++ payload) (judge_payload stream u payload)
told_payload u stream count payload small short size = record {
  text = frame_made stream count payload size;
  good = tt;
  within = record { small = small; short = omega arith };
}

nonzero : (n : ℕ) → (n == 0) ≡ false → 0 < n
nonzero n e = grind (arith, nat_tests)

length_says : (s : FrameUnits) (stream m size : ℕ) (a b : Bool) → if◌then◌else◌ {A = Said} a (Breaks (TooLong s.field)) (if b then judge_payload stream (onto s size (fields.Payload stream 0)) [] else Ends None (onto s size (fields.Payload stream m))) ≡ Begins → ⊥
length_says s stream m size true b e = cc e
length_says s stream m size false true e = cc e
length_says s stream m size false false e = cc e

told_length : (s : FrameUnits) (stream : ℕ) (unit : List ℕ) (v : Varint) → stream < 2 ^ 62 → IsBytes unit → ((k : ℕ) → 0 < k → k < length unit → judge_length stream s (varint_in (take k unit)) ≡ Begins)
    → varint_in unit ≡ v → Told ((magic ++ varint stream) ++ unit) (judge_length stream s v)
told_length s stream unit Short low fits fronts is = tt
told_length s stream unit Long low fits fronts is = tt
told_length s stream unit (Value count size) low fits fronts is = by_size (nat_lt 65535 count) (count == 0) refl refl
  where
    whole : IsWhole unit count
    whole = whole_number unit count size fits is (λ k m n some within e. length_says s stream m n _ _ (subst (λ (v : Varint). judge_length stream s v ≡ Begins) e (fronts k some within)))

    bytes : (magic ++ varint stream) ++ unit ≡ magic ++ (varint stream ++ varint count)
    bytes = append_assoc magic (varint stream) unit ∙ ap (λ (l : List ℕ). magic ++ (varint stream ++ l)) whole.text

    by_size : (a b : Bool) → nat_lt 65535 count ≡ a → (count == 0) ≡ b → Told ((magic ++ varint stream) ++ unit) (if a then Breaks (TooLong s.field) else if b then judge_payload stream (onto s size (fields.Payload stream 0)) [] else Ends None (onto s size (fields.Payload stream count)))
    by_size true b ea e = tt
    by_size false true ea e =
        let none : (magic ++ varint stream) ++ unit ≡ (magic ++ (varint stream ++ varint 0)) ++ [] =
        bytes ∙ (ap (λ (n : ℕ). magic ++ (varint stream ++ varint n)) (eqb-true count 0 e) ∙ sym (append-nil (magic ++ (varint stream ++ varint 0)))) in
        subst (λ (l : List ℕ). Told l (judge_payload stream (onto s size (fields.Payload stream 0)) [])) (sym none)
        (told_payload (onto s size (fields.Payload stream 0)) stream 0 [] low (omega arith) refl)
    by_size false false ea e = record { text = bytes; good = (low, nonzero count e, ltb-false 65535 count ea); within = tt }

-- a payload that is judged has the length that was said
payload_size : (s : FrameUnits) (stream count : ℕ) (unit : List ℕ) → 0 < count → count ≤ length unit
    → ((k : ℕ) → 0 < k → k < length unit → judge_field (fields.Payload stream count) s (take k unit) ≡ Begins) → length unit ≡ count
payload_size s stream count unit some enough fronts = ⊎_elim longer (λ h. omega arith) (cases_lt count (length unit))
  where
    longer : count < length unit → length unit ≡ count
    longer h =
        let size : length (take count unit) ≡ count = length-take-le count unit enough in
        let test : nat_lt (length (take count unit)) count ≡ false = le-ltb (length (take count unit)) count (omega arith) in
        absurd (cc (rw test at (fronts count some h)))

told_field : (s : FrameUnits) (f : Field) (unit : List ℕ) → IsGoodField f → IsBytes unit → ((k : ℕ) → 0 < k → k < length unit → judge_field f s (take k unit) ≡ Begins)
    → Told (begun_of f ++ unit) (judge_field f s unit)
told_field s fields.Magic unit good fits fronts = told_magic s unit
told_field s fields.Stream unit good fits fronts = told_stream s unit (varint_in unit) fits fronts refl
told_field s (fields.Length stream) unit good fits fronts = told_length s stream unit (varint_in unit) good fits fronts refl
told_field s (fields.Payload stream count) unit good fits fronts = by_size (nat_lt (length unit) count) refl
  where
    by_size : (b : Bool) → nat_lt (length unit) count ≡ b → Told ((magic ++ (varint stream ++ varint count)) ++ unit) (if b then Begins else judge_payload stream s unit)
    by_size true e = tt
    by_size false e = told_payload s stream count unit good.0 good.2 (payload_size s stream count unit good.1 (ltb-false (length unit) count e) fronts)

-- the units of a frame are its text
pub told : (s t : FrameUnits) (unit : List ℕ) (item : Option UnreadFrame) → IsGood s → IsBytes unit → FrontsBegin judge s unit → judge s unit ≡ Ends item t
    → IsTold (begun_text s ++ unit) item t
unfolding judge
told s t unit item good fits fronts ends =
    subst (λ (v : Said). Told (begun_of s.next ++ unit) v) ends (told_field s s.next unit good fits fronts)
