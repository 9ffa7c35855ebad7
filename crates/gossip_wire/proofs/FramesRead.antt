-- What is spelled is read: a frame's units, one behind the other.
use Rattle.std.proofs.Common.{◌≡◌, ℕ, ◌+◌, ◌<◌, ◌≤◌, ◌^◌, ◌==◌, nat_lt, if◌then◌else◌, Bool, true, false, List, [], ◌∷◌, ◌++◌, length, take, drop, refl, sym, ap, subst, ◌∙◌, arith, append_assoc, append-nil, length-append, length-drop, take-append-drop, Some, None}
use Rattle.std.specs.List.{AllByRecursion, flat_map}
use Rattle.std.proofs.lemmas.Bool.{eqb-true, le-ltb, lt-ltb, ltb-true}
use Rattle.std.proofs.lemmas.List.{length-take-le}
use Rattle.hex.specs.Hex.{IsBytes}
use Rattle.rad_base.specs.Varint.{BeginsWithLong, ReadsVarint, varint, varint_in}
use Rattle.rad_base.specs.declared.varint.Varint.{Varint}
use Rattle.rad_base.specs.declared.varint.Varint.TheVariants.{Value, Short, Long}
use Rattle.rad_base.proofs.Varints.{one_varint, varint_read}
use Rattle.rad_base.proofs.VarintReads.{reads, reads_back}
use Rattle.unit_reader.specs.Units.{Begins, Breaks, Ends, FrontsBegin, behind}
use Rattle.unit_reader.proofs.Readings.{unit_read}
use Rattle.gossip_wire.specs.Frames.{Frames, IsFrame, frame_text, magic, payload_of, stream_of, stream_text}
use Rattle.gossip_wire.specs.FrameReaders.{frames_from}
use Rattle.gossip_wire.specs.FramesSpelled.{ReadsFrames}
use Rattle.gossip_wire.specs.Judging.{Said, begins_at, further, judge, judge_length, judge_payload, judge_stream, never, stream_kind}
use Rattle.gossip_wire.specs.declared.frame.Frame.{Frame}
use Rattle.gossip_wire.specs.declared.units.Field.{Field}
use Rattle.gossip_wire.specs.declared.units.Field.TheVariants as fields
use Rattle.gossip_wire.specs.declared.units.FrameBreak.TheVariants.{BadKind, TooLong}
use Rattle.gossip_wire.specs.declared.units.FrameUnits.{FrameUnits}
use Rattle.gossip_wire.specs.declared.units.UnreadFrame.{UnreadFrame}
use Rattle.gossip_wire.proofs.FrameTexts.{varint_some}
use Rattle.gossip_wire.proofs.FramesFed.{Read}
use Rattle.gossip_wire.proofs.FramesSpelled.{first_part, second_part}
use Rattle.gossip_wire.proofs.OneFrame.{kind_small}

-- the front of a number's spelling is short
short_front : (n : ℕ) (front behind : List ℕ) → n < 2 ^ 62 → IsBytes front → varint n ≡ front ++ behind → 0 < length behind → (v : Varint) → ReadsVarint front v → v ≡ Short
short_front n front behind small fits e some Short r = refl
short_front n front behind small fits e some (Value m size) r =
    let same : varint m ++ (r.rest ++ behind) ≡ varint n ++ [] =
    sym (append_assoc (varint m) r.rest behind) ∙ ap (λ (l : List ℕ). l ++ behind) (sym r.text) ∙ sym e ∙ sym (append-nil (varint n)) in
    let one = one_varint m n (r.rest ++ behind) [] r.fits small same in
    absurd (omega (arith, some, ap length one.1, length-append r.rest behind))
short_front n front behind small fits e some Long r =
    let long : BeginsWithLong (varint n ++ []) = record {
      size = r.size;
      number = r.number;
      rest = r.rest ++ behind;
      fits = r.fits;
      text = append-nil (varint n) ∙ e ∙ ap (λ (l : List ℕ). l ++ behind) r.text ∙ append_assoc _ r.rest behind;
      longer = r.longer;
    } in
    absurd (cc (varint_read n [] Long small long))

short_take : (n k : ℕ) → n < 2 ^ 62 → IsBytes (varint n) → k < length (varint n) → varint_in (take k (varint n)) ≡ Short
short_take n k small fits within =
    let split : varint n ≡ take k (varint n) ++ drop k (varint n) = sym (take-append-drop k (varint n)) in
    let front : IsBytes (take k (varint n)) = first_part (take k (varint n)) (drop k (varint n)) (subst IsBytes split fits) in
    short_front n (take k (varint n)) (drop k (varint n)) small front split (omega (arith, within, length-drop k (varint n)))
    (varint_in (take k (varint n))) (reads (take k (varint n)) front)

whole_varint : (n : ℕ) → n < 2 ^ 62 → IsBytes (varint n) → varint_in (varint n) ≡ Value n (length (varint n))
whole_varint n small fits =
    ap varint_in (sym (append-nil (varint n))) ∙ reads_back n [] small (subst IsBytes (sym (append-nil (varint n))) fits)

-- a unit that stands in a frame
abbrev pub unit_in : ℕ → ℕ → Field → FrameUnits
unit_in frame field stands = record { frame = frame; field = field; next = stands }

magic_read : (p : ℕ) (rest : List ℕ) → frames_from (begins_at p, []) (magic ++ rest) ≡ frames_from (unit_in p (further p 4) fields.Stream, []) rest
unfolding judge
magic_read p rest = refl

stream_judged : (p q n : ℕ) → n < 2 ^ 62 → stream_kind n < 3 → IsBytes (varint n)
    → judge (unit_in p q fields.Stream) (varint n) ≡ Ends None (unit_in p (further q (length (varint n))) (fields.Length n))
unfolding judge
stream_judged p q n small kind fits =
    ap (λ (v : Varint). judge_stream (unit_in p q fields.Stream) v) (whole_varint n small fits) ∙ by_test (stream_kind n == 3) refl
  where
    by_test : (b : Bool) → (stream_kind n == 3) ≡ b
        → if◌then◌else◌ {A = Said} b (Breaks (BadKind q)) (Ends None (unit_in p (further q (length (varint n))) (fields.Length n))) ≡ Ends None (unit_in p (further q (length (varint n))) (fields.Length n))
    by_test true e = absurd (omega (arith, kind, eqb-true (stream_kind n) 3 e))
    by_test false e = refl

stream_fronts : (p q n : ℕ) → n < 2 ^ 62 → IsBytes (varint n) → FrontsBegin judge (unit_in p q fields.Stream) (varint n)
unfolding judge
stream_fronts p q n small fits k some within = ap (λ (v : Varint). judge_stream (unit_in p q fields.Stream) v) (short_take n k small fits within)

stream_read : (p q n : ℕ) (rest : List ℕ) → n < 2 ^ 62 → stream_kind n < 3 → IsBytes (varint n)
    → frames_from (unit_in p q fields.Stream, []) (varint n ++ rest) ≡ frames_from (unit_in p (further q (length (varint n))) (fields.Length n), []) rest
stream_read p q n rest small kind fits =
    unit_read never judge (unit_in p q fields.Stream) (unit_in p (further q (length (varint n))) (fields.Length n)) None (varint n) rest refl (varint_some n)
    (stream_fronts p q n small fits) (stream_judged p q n small kind fits)

length_fronts : (p q stream n : ℕ) → n < 2 ^ 62 → IsBytes (varint n) → FrontsBegin judge (unit_in p q (fields.Length stream)) (varint n)
unfolding judge
length_fronts p q stream n small fits k some within = ap (λ (v : Varint). judge_length stream (unit_in p q (fields.Length stream)) v) (short_take n k small fits within)

-- the frame of a stream and a payload, where these stand
abbrev pub unread_at : ℕ → ℕ → ℕ → List ℕ → UnreadFrame
unread_at place inside stream payload = record { place = place; inside = inside; stream = stream; payload = payload }

none_judged : (p q stream : ℕ) → IsBytes (varint 0) → judge (unit_in p q (fields.Length stream)) (varint 0)
    ≡ Ends (Some (unread_at p (further q (length (varint 0))) stream [])) (begins_at (further (further q (length (varint 0))) 0))
unfolding judge
none_judged p q stream fits = ap (λ (v : Varint). judge_length stream (unit_in p q (fields.Length stream)) v) (whole_varint 0 (omega arith) fits)

length_judged : (p q stream n : ℕ) → 0 < n → n ≤ 65535 → IsBytes (varint n)
    → judge (unit_in p q (fields.Length stream)) (varint n) ≡ Ends None (unit_in p (further q (length (varint n))) (fields.Payload stream n))
unfolding judge
length_judged p q stream n some short fits =
    ap (λ (v : Varint). judge_length stream (unit_in p q (fields.Length stream)) v) (whole_varint n (omega (arith, short)) fits) ∙ by_test (nat_lt 65535 n) (n == 0) refl refl
  where
    by_test : (a b : Bool) → nat_lt 65535 n ≡ a → (n == 0) ≡ b
        → if◌then◌else◌ {A = Said} a (Breaks (TooLong q)) (if b then judge_payload stream (unit_in p (further q (length (varint n))) (fields.Payload stream 0)) [] else Ends None (unit_in p (further q (length (varint n))) (fields.Payload stream n)))
        ≡ Ends None (unit_in p (further q (length (varint n))) (fields.Payload stream n))
    by_test true b ea eb = let above = ltb-true 65535 n ea in absurd (omega arith)
    by_test false true ea eb = let none = eqb-true n 0 eb in absurd (omega arith)
    by_test false false ea eb = refl

payload_fronts : (p q stream : ℕ) (payload : List ℕ) → FrontsBegin judge (unit_in p q (fields.Payload stream (length payload))) payload
unfolding judge
payload_fronts p q stream payload k some within =
    let size : length (take k payload) ≡ k = length-take-le k payload (omega arith) in
    ap (λ (b : Bool). if◌then◌else◌ {A = Said} b Begins (judge_payload stream (unit_in p q (fields.Payload stream (length payload))) (take k payload)))
    (lt-ltb (length (take k payload)) (length payload) (omega arith))

payload_judged : (p q stream : ℕ) (payload : List ℕ) → judge (unit_in p q (fields.Payload stream (length payload))) payload
    ≡ Ends (Some (unread_at p q stream payload)) (begins_at (further q (length payload)))
unfolding judge
payload_judged p q stream payload =
    ap (λ (b : Bool). if◌then◌else◌ {A = Said} b Begins (judge_payload stream (unit_in p q (fields.Payload stream (length payload))) payload))
    (le-ltb (length payload) (length payload) (omega arith))

-- a length and a payload are read as a frame
rest_read : (p q stream : ℕ) (payload rest : List ℕ) → length payload ≤ 65535 → IsBytes (varint (length payload))
    → frames_from (unit_in p q (fields.Length stream), []) (varint (length payload) ++ (payload ++ rest))
    ≡ behind (unread_at p (further q (length (varint (length payload)))) stream payload ∷ [])
    (frames_from (begins_at (further (further q (length (varint (length payload)))) (length payload)), []) rest)
rest_read p q stream [] rest short fits =
    unit_read never judge (unit_in p q (fields.Length stream)) (begins_at (further (further q (length (varint 0))) 0)) (Some (unread_at p (further q (length (varint 0))) stream []))
    (varint 0) rest refl (varint_some 0) (length_fronts p q stream 0 (omega arith) fits) (none_judged p q stream fits)
rest_read p q stream (b ∷ payload) rest short fits =
    let n : ℕ = length (b ∷ payload) in
    let r : ℕ = further q (length (varint (length (b ∷ payload)))) in
    let some : 0 < length (b ∷ payload) = omega arith in
    unit_read never judge (unit_in p q (fields.Length stream)) (unit_in p r (fields.Payload stream n)) None (varint n) ((b ∷ payload) ++ rest) refl (varint_some n)
    (length_fronts p q stream n (omega (arith, short)) fits) (length_judged p q stream n some short fits)
    ∙ unit_read never judge (unit_in p r (fields.Payload stream n)) (begins_at (further r n)) (Some (unread_at p r stream (b ∷ payload))) (b ∷ payload) rest refl some
    (payload_fronts p r stream (b ∷ payload)) (payload_judged p r stream (b ∷ payload))

kind_kept : (f : Frame) → IsFrame f → stream_kind (stream_of f) < 3
kind_kept f is = let kind = kind_small f.body in let side = is.side in omega arith

-- how far on a frame ends
frame_ends : (p a b c size : ℕ) → size ≡ 4 + (a + (b + c)) → further (further (further (further p 4) a) b) c ≡ further p size
frame_ends p a b c size e = omega (arith, e)

frame_regrouped : (stream : ℕ) (payload rest : List ℕ) → stream_text stream payload ++ rest ≡ varint stream ++ (varint (length payload) ++ (payload ++ rest))
frame_regrouped stream payload rest =
    append_assoc (varint stream) (varint (length payload) ++ payload) rest
    ∙ ap (λ (l : List ℕ). varint stream ++ l) (append_assoc (varint (length payload)) payload rest)

-- where the payload of a frame stands
abbrev pub inside_of : ℕ → ℕ → List ℕ → ℕ
inside_of p stream payload = further (further (further p 4) (length (varint stream))) (length (varint (length payload)))

-- a stream and a payload are read as a frame
unread_read : (p stream : ℕ) (payload rest : List ℕ) → stream < 2 ^ 62 → stream_kind stream < 3 → length payload ≤ 65535 → IsBytes (stream_text stream payload)
    → frames_from (begins_at p, []) ((magic ++ stream_text stream payload) ++ rest)
    ≡ behind (unread_at p (inside_of p stream payload) stream payload ∷ []) (frames_from (begins_at (further p (length (magic ++ stream_text stream payload))), []) rest)
unread_read p stream payload rest small kind short fits =
    let a : ℕ = length (varint stream) in
    let b : ℕ = length (varint (length payload)) in
    let behind_stream = second_part (varint stream) (varint (length payload) ++ payload) fits in
    let ends : further (further (further (further p 4) a) b) (length payload) ≡ further p (length (magic ++ stream_text stream payload)) =
    frame_ends p a b (length payload) (length (magic ++ stream_text stream payload))
    (omega (arith, length-append (varint stream) (varint (length payload) ++ payload), length-append (varint (length payload)) payload)) in
    ap (λ (l : List ℕ). frames_from (begins_at p, []) (magic ++ l)) (frame_regrouped stream payload rest)
    ∙ magic_read p (varint stream ++ (varint (length payload) ++ (payload ++ rest)))
    ∙ stream_read p (further p 4) stream (varint (length payload) ++ (payload ++ rest)) small kind (first_part (varint stream) (varint (length payload) ++ payload) fits)
    ∙ rest_read p (further (further p 4) a) stream payload rest short (first_part (varint (length payload)) payload behind_stream)
    ∙ ap (λ (n : ℕ). behind (unread_at p (inside_of p stream payload) stream payload ∷ []) (frames_from (begins_at n, []) rest)) ends

-- frames one behind the other are read
list_read : (p : ℕ) (frames : List Frame) (rest : List ℕ) → AllByRecursion IsFrame frames → IsBytes (flat_map frame_text frames ++ rest)
    → ReadsFrames (flat_map frame_text frames ++ rest) p frames rest
list_read p [] rest each fits = record { unread = []; are = tt; next = p; read = refl }
list_read p (f ∷ frames) rest each fits =
    let more : List ℕ = flat_map frame_text frames ++ rest in
    let split : flat_map frame_text (f ∷ frames) ++ rest ≡ frame_text f ++ (flat_map frame_text frames ++ rest) = append_assoc (frame_text f) (flat_map frame_text frames) rest in
    let all : IsBytes (frame_text f ++ (flat_map frame_text frames ++ rest)) = subst IsBytes split fits in
    let text : IsBytes (stream_text (stream_of f) (payload_of f.body)) =
    second_part magic (stream_text (stream_of f) (payload_of f.body)) (first_part (frame_text f) (flat_map frame_text frames ++ rest) all) in
    let later = list_read (further p (length (frame_text f))) frames rest each.1 (second_part (frame_text f) (flat_map frame_text frames ++ rest) all) in
    let unread = unread_at p (inside_of p (stream_of f) (payload_of f.body)) (stream_of f) (payload_of f.body) in
    record {
      unread = unread ∷ later.unread;
      are = (record { place = refl; side = each.0.side; stream = refl; body = each.0.body; payload = refl }, later.are);
      next = later.next;
      read =
          ap (λ (l : List ℕ). frames_from (begins_at p, []) l) split
          ∙ unread_read p (stream_of f) (payload_of f.body) (flat_map frame_text frames ++ rest) each.0.stream (kind_kept f each.0) each.0.short text
          ∙ ap (λ (r : Read). behind (unread ∷ []) r) later.read;
    }

-- what is spelled is read
pub spelled_is_read : (bytes : List ℕ) (frames : List Frame) (rest : List ℕ) → IsBytes bytes → Frames bytes frames rest → ReadsFrames bytes 0 frames rest
spelled_is_read bytes frames rest fits spells =
    subst (λ (l : List ℕ). ReadsFrames l 0 frames rest) (sym spells.text) (list_read 0 frames rest spells.each (subst IsBytes spells.text fits))
