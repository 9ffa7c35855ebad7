-- Integers in one to eight bytes, as RFC 9000 section 16 has them, each in its shortest spelling
-- alone.
use Rattle.std.specs.Prelude.{◌≡◌, ℕ, ◌+◌, ◌-◌, ◌*◌, ◌/◌, ◌^◌, ◌<◌, nat_lt}
use Rattle.std.specs.Prelude.{if◌then◌else◌, List, [], ◌∷◌, ◌++◌, length, take}
use Rattle.std.specs.Int.{from_be_bytes, to_be_bytes, w16, w32, w64}
use Rattle.rad_base.specs.declared.varint.Varint.{Varint}
use Rattle.rad_base.specs.declared.varint.Varint.TheVariants.{Value, Short, Long}

-- how many bytes a spelling has
pub data Size : Type 0 where
  One : Size
  Two : Size
  Four : Size
  Eight : Size

-- as a number
abbrev pub size_bytes : Size → ℕ
size_bytes One = 1
size_bytes Two = 2
size_bytes Four = 4
size_bytes Eight = 8

-- the numbers below it have a spelling of this size: two bits of the first byte are taken
abbrev pub room : Size → ℕ
room One = 2 ^ 6
room Two = 2 ^ 14
room Four = 2 ^ 30
room Eight = 2 ^ 62

-- the number, the highest byte first, with the size in its two highest bits
abbrev pub spelled : Size → ℕ → List ℕ
spelled One n = n ∷ []
spelled Two n = to_be_bytes w16 (2 ^ 14 + n)
spelled Four n = to_be_bytes w32 (2 ^ 31 + n)
spelled Eight n = to_be_bytes w64 (3 * 2 ^ 62 + n)

-- the least size that has room
abbrev pub shortest : ℕ → Size
shortest n =
    if nat_lt n (2 ^ 6) then One
    else if nat_lt n (2 ^ 14) then Two
    else if nat_lt n (2 ^ 30) then Four
    else Eight

-- the one spelling of a number below 2^62
unfoldable pub varint : ℕ → List ℕ
varint n = spelled (shortest n) n

-- the bytes begin with a number's spelling, which has this many bytes
pub record BeginsWithVarint (bytes : List ℕ) (n count : ℕ) : Type 0 where
  pub fits : n < 2 ^ 62
  pub rest : List ℕ
  pub text : bytes ≡ varint n ++ rest
  pub size : count ≡ length (varint n)

-- there are fewer bytes than the first one says by its two highest bits, or none
abbrev pub EndsInside : List ℕ → Type 0
EndsInside [] = Unit {0}
EndsInside (first ∷ rest) = length (first ∷ rest) < 2 ^ (first / 64)

-- the bytes begin with a spelling of a number that has a shorter one
pub record BeginsWithLong (bytes : List ℕ) : Type 0 where
  pub size : Size
  pub number : ℕ
  pub rest : List ℕ
  pub fits : number < room size
  pub text : bytes ≡ spelled size number ++ rest
  pub longer : size_bytes (shortest number) < size_bytes size

-- what reading answers
abbrev pub ReadsVarint : List ℕ → Varint → Type 0
ReadsVarint bytes (Value n size) = BeginsWithVarint bytes n size
ReadsVarint bytes Short = EndsInside bytes
ReadsVarint bytes Long = BeginsWithLong bytes

-- a number in a size whose least number is this
abbrev pub shortest_or_long : ℕ → ℕ → ℕ → Varint
shortest_or_long number least size = if nat_lt number least then Long else Value number size

-- what stands at the front of bytes of which the first says that they are two, four or eight
abbrev pub two_in : List ℕ → Varint
two_in bytes =
    if nat_lt (length bytes) 2 then Short
    else shortest_or_long (from_be_bytes w16 (take 2 bytes) - 2 ^ 14) (2 ^ 6) 2

abbrev pub four_in : List ℕ → Varint
four_in bytes =
    if nat_lt (length bytes) 4 then Short
    else shortest_or_long (from_be_bytes w32 (take 4 bytes) - 2 ^ 31) (2 ^ 14) 4

abbrev pub eight_in : List ℕ → Varint
eight_in bytes =
    if nat_lt (length bytes) 8 then Short
    else shortest_or_long (from_be_bytes w64 (take 8 bytes) - 3 * 2 ^ 62) (2 ^ 30) 8

-- what reading answers, as a function of the bytes
abbrev pub varint_in : List ℕ → Varint
varint_in [] = Short
varint_in (first ∷ rest) =
    if nat_lt first 64 then Value first 1
    else if nat_lt first 128 then two_in (first ∷ rest)
    else if nat_lt first 192 then four_in (first ∷ rest)
    else eight_in (first ∷ rest)

-- no spelling begins another
abbrev pub NoVarintBeginsAnother : Type 0
NoVarintBeginsAnother =
    (m n : ℕ) (a b : List ℕ) → m < 2 ^ 62 → n < 2 ^ 62 → varint m ++ a ≡ varint n ++ b
    → (m ≡ n) × (a ≡ b)

-- reading a spelling gives its number, whatever follows
abbrev pub VarintReadsBack : Type 0
VarintReadsBack =
    (n : ℕ) (rest : List ℕ) (answer : Varint) → n < 2 ^ 62 → ReadsVarint (varint n ++ rest) answer
    → answer ≡ Value n (length (varint n))
