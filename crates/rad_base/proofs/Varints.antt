-- Spellings of integers: each can be read in one way.
use Rattle.std.proofs.Common.{Bool, true, false, ◌≡◌, ℕ, ◌+◌, ◌-◌, ◌*◌, ◌/◌, ◌^◌, ◌<◌, ◌≤◌, ◌==◌, nat_lt, if◌then◌else◌, List, [], ◌∷◌, ◌++◌, length, get_or, take, drop, Some, slice_get, slice_set, refl, sym, ap, subst, ◌∙◌, arith, take-append-drop}
use Rattle.std.proofs.lemmas.Bool.{le-ltb, lt-ltb, ltb-false, ltb-true}
use Rattle.std.proofs.lemmas.List.{get_or-take, length-take-le, take_at}
use Rattle.std.proofs.lemmas.Nat.{be_bytes_2, be_bytes_4, be_bytes_8, from_be_bytes-to_be_bytes_2, from_be_bytes-to_be_bytes_4, from_be_bytes-to_be_bytes_8}
use Rattle.std.specs.Int.{from_be_bytes, to_be_bytes, w16, w32, w64}
use Rattle.std.specs.Array.{IsFirstChunk}
use Rattle.hex.specs.Hex.{IsBytes}
use Rattle.rad_base.proofs.OneFront.{front_of, one_front}
use Rattle.rad_base.specs.Varint.{BeginsWithLong, BeginsWithVarint, EndsInside, ReadsVarint, Size, One, Two, Four, Eight, room, shortest, size_bytes, spelled, varint}
use Rattle.rad_base.specs.declared.varint.Varint.{Varint}
use Rattle.rad_base.specs.declared.varint.Varint.TheVariants.{Value, Short, Long}

-- the least size of each number
pub shortest_one : (n : ℕ) → n < 2 ^ 6 → shortest n ≡ One
shortest_one n a = rw (lt-ltb n (2 ^ 6) a) refl

pub shortest_two : (n : ℕ) → 2 ^ 6 ≤ n → n < 2 ^ 14 → shortest n ≡ Two
shortest_two n a b = rw (le-ltb n (2 ^ 6) a, lt-ltb n (2 ^ 14) b) refl

pub shortest_four : (n : ℕ) → 2 ^ 14 ≤ n → n < 2 ^ 30 → shortest n ≡ Four
shortest_four n a b =
    let low : 2 ^ 6 ≤ n = omega (arith, a) in
    rw (le-ltb n (2 ^ 6) low, le-ltb n (2 ^ 14) a, lt-ltb n (2 ^ 30) b) refl

pub shortest_eight : (n : ℕ) → 2 ^ 30 ≤ n → shortest n ≡ Eight
shortest_eight n a =
    let low : 2 ^ 6 ≤ n = omega (arith, a) in
    let middle : 2 ^ 14 ≤ n = omega (arith, a) in
    rw (le-ltb n (2 ^ 6) low, le-ltb n (2 ^ 14) middle, le-ltb n (2 ^ 30) a) refl

-- the least size has room
shortest_room : (n : ℕ) → n < 2 ^ 62 → n < room (shortest n)
shortest_room n fits = go (nat_lt n (2 ^ 6)) (nat_lt n (2 ^ 14)) (nat_lt n (2 ^ 30)) refl refl refl
  where
    go : (a b c : Bool) → nat_lt n (2 ^ 6) ≡ a → nat_lt n (2 ^ 14) ≡ b → nat_lt n (2 ^ 30) ≡ c → n < room (if a then One else if b then Two else if c then Four else Eight)
    go true b c ea eb ec = ltb-true n (2 ^ 6) ea
    go false true c ea eb ec = ltb-true n (2 ^ 14) eb
    go false false true ea eb ec = ltb-true n (2 ^ 30) ec
    go false false false ea eb ec = fits

spelled_size : (s : Size) (n : ℕ) → length (spelled s n) ≡ size_bytes s
spelled_size One n = refl
spelled_size Two n = refl
spelled_size Four n = refl
spelled_size Eight n = refl

-- a number's spelling, where its least size is known
pub varint_is : (s : Size) (n : ℕ) → shortest n ≡ s → varint n ≡ spelled s n
unfolding varint
varint_is s n h = ap (λ (t : Size). spelled t n) h

-- and how many bytes it has
pub varint_size : (s : Size) (n : ℕ) → shortest n ≡ s → size_bytes s ≡ length (varint n)
varint_size s n h = sym (ap length (varint_is s n h) ∙ spelled_size s n)

-- what the first byte says
abbrev mark : Size → ℕ
mark One = 0
mark Two = 1
mark Four = 2
mark Eight = 3

marked : (s : Size) (n : ℕ) (rest : List ℕ) → n < room s → get_or (spelled s n ++ rest) 0 0 / 64 ≡ mark s
marked One n rest fits = omega (arith, fits)
marked Two n rest fits = omega (arith, fits)
marked Four n rest fits = omega (arith, fits)
marked Eight n rest fits = omega (arith, fits)

of_mark : ℕ → Size
of_mark k = if k == 0 then One else if k == 1 then Two else if k == 2 then Four else Eight

of_mark_is : (s : Size) → of_mark (mark s) ≡ s
unfolding of_mark
of_mark_is One = refl
of_mark_is Two = refl
of_mark_is Four = refl
of_mark_is Eight = refl

same_number : (s : Size) (m n : ℕ) → m < room s → n < room s → spelled s m ≡ spelled s n → m ≡ n
same_number One m n a b h = ap (λ (l : List ℕ). get_or l 0 0) h
same_number Two m n a b h =
    let fm : 2 ^ 14 + m < 2 ^ 16 = omega (arith, a) in
    let fn : 2 ^ 14 + n < 2 ^ 16 = omega (arith, b) in
    omega (arith, sym (from_be_bytes-to_be_bytes_2 (2 ^ 14 + m) fm) ∙ ap (from_be_bytes w16) h ∙ from_be_bytes-to_be_bytes_2 (2 ^ 14 + n) fn)
same_number Four m n a b h =
    let fm : 2 ^ 31 + m < 2 ^ 32 = omega (arith, a) in
    let fn : 2 ^ 31 + n < 2 ^ 32 = omega (arith, b) in
    omega (arith, sym (from_be_bytes-to_be_bytes_4 (2 ^ 31 + m) fm) ∙ ap (from_be_bytes w32) h ∙ from_be_bytes-to_be_bytes_4 (2 ^ 31 + n) fn)
same_number Eight m n a b h =
    let fm : 3 * 2 ^ 62 + m < 2 ^ 64 = omega (arith, a) in
    let fn : 3 * 2 ^ 62 + n < 2 ^ 64 = omega (arith, b) in
    omega (arith, sym (from_be_bytes-to_be_bytes_8 (3 * 2 ^ 62 + m) fm) ∙ ap (from_be_bytes w64) h ∙ from_be_bytes-to_be_bytes_8 (3 * 2 ^ 62 + n) fn)

-- at most one spelling stands in front: its size and its number are determined
pub one_size_and_number : (s t : Size) (m n : ℕ) (a b : List ℕ) → m < room s → n < room t → spelled s m ++ a ≡ spelled t n ++ b → (s ≡ t) × (m ≡ n) × (a ≡ b)
one_size_and_number s t m n a b fm fn h =
    let marks : mark s ≡ mark t = sym (marked s m a fm) ∙ ap (λ (l : List ℕ). get_or l 0 0 / 64) h ∙ marked t n b fn in
    let same : s ≡ t = sym (of_mark_is s) ∙ ap of_mark marks ∙ of_mark_is t in
    let h' = subst (λ (u : Size). spelled s m ++ a ≡ spelled u n ++ b) (sym same) h in
    let fn' = subst (λ (u : Size). n < room u) (sym same) fn in
    let fronts = one_front (spelled s m) (spelled s n) a b (spelled_size s m ∙ sym (spelled_size s n)) h' in
    (same, same_number s m n fm fn' fronts.0, fronts.1)

-- no spelling begins another
pub one_varint : (m n : ℕ) (a b : List ℕ) → m < 2 ^ 62 → n < 2 ^ 62 → varint m ++ a ≡ varint n ++ b → (m ≡ n) × (a ≡ b)
unfolding varint
one_varint m n a b fm fn h =
    let one = one_size_and_number (shortest m) (shortest n) m n a b (shortest_room m fm) (shortest_room n fn) h in
    (one.1, one.2)

whole : (s : Size) (n : ℕ) (rest : List ℕ) → n < room s → EndsInside (spelled s n ++ rest) → ⊥
whole One n rest fits h = omega (arith, rw (marked One n rest fits) at h)
whole Two n rest fits h = omega (arith, rw (marked Two n rest fits) at h)
whole Four n rest fits h = omega (arith, rw (marked Four n rest fits) at h)
whole Eight n rest fits h = omega (arith, rw (marked Eight n rest fits) at h)

no_end : (n : ℕ) (rest : List ℕ) → n < 2 ^ 62 → EndsInside (varint n ++ rest) → ⊥
unfolding varint
no_end n rest fits h = whole (shortest n) n rest (shortest_room n fits) h

no_long : (n : ℕ) (rest : List ℕ) → n < 2 ^ 62 → BeginsWithLong (varint n ++ rest) → ⊥
unfolding varint
no_long n rest fits r =
    let one = one_size_and_number (shortest n) r.size n r.number rest r.rest (shortest_room n fits) r.fits r.text in
    omega (arith, r.longer, ap (λ (m : ℕ). size_bytes (shortest m)) one.1, ap size_bytes one.0)

-- reading a spelling gives its number
pub varint_read : (n : ℕ) (rest : List ℕ) (answer : Varint) → n < 2 ^ 62 → ReadsVarint (varint n ++ rest) answer → answer ≡ Value n (length (varint n))
varint_read n rest (Value m count) fits r =
    let one = one_varint n m rest r.rest fits r.fits r.text in
    rw (r.size, one.0) refl
varint_read n rest Short fits r = absurd (no_end n rest fits r)
varint_read n rest Long fits r = absurd (no_long n rest fits r)

-- a number in a size that has room for it is the shortest spelling, or a longer one
pub judged : (s : Size) (bytes rest : List ℕ) (n least : ℕ) → n < room s → n < 2 ^ 62 → bytes ≡ spelled s n ++ rest
    → (n < least → size_bytes (shortest n) < size_bytes s) → (least ≤ n → shortest n ≡ s)
    → ReadsVarint bytes (if nat_lt n least then Long else Value n (size_bytes s))
judged s bytes rest n least fits small text below above = go (nat_lt n least) refl
  where
    go : (b : Bool) → nat_lt n least ≡ b → ReadsVarint bytes (if b then Long else Value n (size_bytes s))
    go true e = record { size = s; number = n; rest = rest; fits = fits; text = text; longer = below (ltb-true n least e) }
    go false e =
        let same = above (ltb-false n least e) in
        record { fits = small; rest = rest; text = text ∙ ap (λ (l : List ℕ). l ++ rest) (sym (varint_is s n same)); size = varint_size s n same }

-- the first bytes, as many as this, each below 256
pub record IsChunk (size : ℕ) (bytes front : List ℕ) : Type 0 where
  pub enough : size ≤ length bytes
  pub small : (i : ℕ) → get_or front i 0 < 256
  pub is : front ≡ take size bytes

-- a chunk of bytes
pub front_at : (k : ℕ) (bytes front : List ℕ) → IsFirstChunk bytes front k → IsBytes bytes → IsChunk k bytes front
front_at k bytes front chunk fits =
    let f = front_of k bytes front (drop k bytes) chunk.enough fits chunk.same refl in
    record { enough = chunk.enough; small = f.whole.fits; is = chunk.same }

first_same : (k : ℕ) (bytes front : List ℕ) → 0 < k → IsChunk k bytes front → get_or front 0 0 ≡ get_or bytes 0 0
first_same k bytes front some f = ap (λ (l : List ℕ). get_or l 0 0) f.is ∙ get_or-take k bytes 0 0 some

front_text : (k : ℕ) (bytes front text : List ℕ) → IsChunk k bytes front → text ≡ front → bytes ≡ text ++ drop k bytes
front_text k bytes front text f e = sym (take-append-drop k bytes) ∙ ap (λ (l : List ℕ). l ++ drop k bytes) (sym (e ∙ f.is))

front_size : (k : ℕ) (bytes front : List ℕ) → IsChunk k bytes front → length front ≡ k
front_size k bytes front f = ap length f.is ∙ length-take-le k bytes f.enough

-- two bytes of which the first one says that they are two
pub two_range : (bytes front : List ℕ) (x : ℕ) → IsChunk 2 bytes front → get_or bytes 0 0 / 64 ≡ 1 → x ≡ from_be_bytes w16 front → (2 ^ 14 ≤ x) × (x < 2 ^ 15)
two_range bytes front x f e is =
    let head : get_or front 0 0 / 64 ≡ 1 = ap (λ (n : ℕ). n / 64) (first_same 2 bytes front (omega arith) f) ∙ e in
    let s0 = f.small 0 in
    let s1 = f.small 1 in
    (omega (arith, head, is, s0, s1), omega (arith, head, is, s0, s1))

pub read_two_is : (bytes front : List ℕ) (x : ℕ) → IsChunk 2 bytes front → get_or bytes 0 0 / 64 ≡ 1 → x ≡ from_be_bytes w16 front
    → (n : ℕ) (answer : Varint) → n ≡ x - 2 ^ 14 → answer ≡ (if nat_lt n (2 ^ 6) then Long else Value n 2) → ReadsVarint bytes answer
read_two_is bytes front x f e is n answer number same =
    let range = two_range bytes front x f e is in
    let whole : 2 ^ 14 + (x - 2 ^ 14) ≡ x = omega (arith, range.0) in
    let text : spelled Two (x - 2 ^ 14) ≡ front = ap (to_be_bytes w16) whole ∙ be_bytes_2 front x (front_size 2 bytes front f) f.small is in
    rw (same, number) (judged Two bytes (drop 2 bytes) (x - 2 ^ 14) (2 ^ 6) (omega (arith, range.1)) (omega (arith, range.1)) (front_text 2 bytes front _ f text)
    (λ low. omega (arith, ap size_bytes (shortest_one (x - 2 ^ 14) low)))
    (λ high. shortest_two (x - 2 ^ 14) high (omega (arith, range.1))))

-- four bytes of which the first one says that they are four
pub four_range : (bytes front : List ℕ) (x : ℕ) → IsChunk 4 bytes front → get_or bytes 0 0 / 64 ≡ 2 → x ≡ from_be_bytes w32 front → (2 ^ 31 ≤ x) × (x < 2 ^ 31 + 2 ^ 30)
four_range bytes front x f e is =
    let head : get_or front 0 0 / 64 ≡ 2 = ap (λ (n : ℕ). n / 64) (first_same 4 bytes front (omega arith) f) ∙ e in
    let s0 = f.small 0 in
    let s1 = f.small 1 in
    let s2 = f.small 2 in
    let s3 = f.small 3 in
    (omega (arith, head, is, s0, s1, s2, s3), omega (arith, head, is, s0, s1, s2, s3))

pub read_four_is : (bytes front : List ℕ) (x : ℕ) → IsChunk 4 bytes front → get_or bytes 0 0 / 64 ≡ 2 → x ≡ from_be_bytes w32 front
    → (n : ℕ) (answer : Varint) → n ≡ x - 2 ^ 31 → answer ≡ (if nat_lt n (2 ^ 14) then Long else Value n 4) → ReadsVarint bytes answer
read_four_is bytes front x f e is n answer number same =
    let range = four_range bytes front x f e is in
    let whole : 2 ^ 31 + (x - 2 ^ 31) ≡ x = omega (arith, range.0) in
    let text : spelled Four (x - 2 ^ 31) ≡ front = ap (to_be_bytes w32) whole ∙ be_bytes_4 front x (front_size 4 bytes front f) f.small is in
    rw (same, number) (judged Four bytes (drop 4 bytes) (x - 2 ^ 31) (2 ^ 14) (omega (arith, range.1)) (omega (arith, range.1)) (front_text 4 bytes front _ f text)
    (λ low. below_four (x - 2 ^ 31) low)
    (λ high. shortest_four (x - 2 ^ 31) high (omega (arith, range.1))))
  where
    below_four : (n : ℕ) → n < 2 ^ 14 → size_bytes (shortest n) < 4
    below_four n low = go (nat_lt n (2 ^ 6)) refl
      where
        go : (b : Bool) → nat_lt n (2 ^ 6) ≡ b → size_bytes (shortest n) < 4
        go true e = omega (arith, ap size_bytes (shortest_one n (ltb-true n (2 ^ 6) e)))
        go false e = omega (arith, ap size_bytes (shortest_two n (ltb-false n (2 ^ 6) e) low))

-- eight bytes of which the first one says that they are eight
pub eight_range : (bytes front : List ℕ) (x : ℕ) → IsChunk 8 bytes front → get_or bytes 0 0 / 64 ≡ 3 → x ≡ from_be_bytes w64 front → (3 * 2 ^ 62 ≤ x) × (x < 2 ^ 64)
eight_range bytes front x f e is =
    let head : get_or front 0 0 / 64 ≡ 3 = ap (λ (n : ℕ). n / 64) (first_same 8 bytes front (omega arith) f) ∙ e in
    let s0 = f.small 0 in
    let s1 = f.small 1 in
    let s2 = f.small 2 in
    let s3 = f.small 3 in
    let s4 = f.small 4 in
    let s5 = f.small 5 in
    let s6 = f.small 6 in
    let s7 = f.small 7 in
    (omega (arith, head, is, s0, s1, s2, s3, s4, s5, s6, s7), omega (arith, head, is, s0, s1, s2, s3, s4, s5, s6, s7))

pub read_eight_is : (bytes front : List ℕ) (x : ℕ) → IsChunk 8 bytes front → get_or bytes 0 0 / 64 ≡ 3 → x ≡ from_be_bytes w64 front
    → (n : ℕ) (answer : Varint) → n ≡ x - 3 * 2 ^ 62 → answer ≡ (if nat_lt n (2 ^ 30) then Long else Value n 8) → ReadsVarint bytes answer
read_eight_is bytes front x f e is n answer number same =
    let range = eight_range bytes front x f e is in
    let whole : 3 * 2 ^ 62 + (x - 3 * 2 ^ 62) ≡ x = omega (arith, range.0) in
    let text : spelled Eight (x - 3 * 2 ^ 62) ≡ front = ap (to_be_bytes w64) whole ∙ be_bytes_8 front x (front_size 8 bytes front f) f.small is in
    rw (same, number) (judged Eight bytes (drop 8 bytes) (x - 3 * 2 ^ 62) (2 ^ 30) (omega (arith, range.1)) (omega (arith, range.1)) (front_text 8 bytes front _ f text)
    (λ low. below_eight (x - 3 * 2 ^ 62) low)
    (λ high. shortest_eight (x - 3 * 2 ^ 62) high))
  where
    below_eight : (n : ℕ) → n < 2 ^ 30 → size_bytes (shortest n) < 8
    below_eight n low = go (nat_lt n (2 ^ 6)) (nat_lt n (2 ^ 14)) refl refl
      where
        go : (a b : Bool) → nat_lt n (2 ^ 6) ≡ a → nat_lt n (2 ^ 14) ≡ b → size_bytes (shortest n) < 8
        go true b ea eb = omega (arith, ap size_bytes (shortest_one n (ltb-true n (2 ^ 6) ea)))
        go false true ea eb = omega (arith, ap size_bytes (shortest_two n (ltb-false n (2 ^ 6) ea) (ltb-true n (2 ^ 14) eb)))
        go false false ea eb = omega (arith, ap size_bytes (shortest_four n (ltb-false n (2 ^ 14) eb) low))

-- one byte below 64
pub read_one_is : (bytes : List ℕ) (b : ℕ) → Some b ≡ slice_get bytes 0 → b < 64 → BeginsWithVarint bytes b 1
read_one_is [] b e low = cc e
read_one_is (x ∷ rest) b e low =
    let same = shortest_one b low in
    let first : b ≡ x = cc e in
    record {
      fits = omega (arith, low);
      rest = rest;
      text = ap (λ (n : ℕ). n ∷ rest) (sym first) ∙ ap (λ (l : List ℕ). l ++ rest) (sym (varint_is One b same));
      size = varint_size One b same;
    }

-- what was written to the front
pub written_is : (s : Size) (n : ℕ) (new rest : List ℕ) → shortest n ≡ s → new ≡ spelled s n → take (size_bytes s) (new ++ rest) ≡ varint n
written_is s n new rest least text = take_at new rest (size_bytes s) (ap length text ∙ spelled_size s n) ∙ text ∙ sym (varint_is s n least)

-- one byte written to the front
pub first_written : (out : List ℕ) (n : ℕ) → 0 < length out → n < 2 ^ 6 → take 1 (slice_set out 0 n) ≡ varint n
first_written [] n some low = absurd (omega arith)
first_written (x ∷ rest) n some low = sym (varint_is One n (shortest_one n low))
