-- Filters of repositories, as bytes.
use Rattle.std.specs.Prelude.{◌≡◌, ℕ, ◌+◌, ◌*◌, ◌/◌, ◌%◌, ◌<◌, ◌==◌, Bool, ◌||◌, List, [], ◌∷◌, length, map, slice_index}
use Rattle.std.specs.List.{list_all, list_any}
use Rattle.std.specs.Int.{bit_at, from_be_bytes, w16}
use Rattle.rad_base.specs.declared.names.Rid.{Rid}
use Rattle.announcements.specs.declared.filter.FilterSize.{FilterSize}
use Rattle.announcements.specs.declared.filter.FilterSize.TheVariants.{Small, Middle, Large}

-- how many bytes a filter of a size has
abbrev pub size_bytes : FilterSize → ℕ
size_bytes Small = 1024
size_bytes Middle = 4096
size_bytes Large = 16384

-- whether a filter may have so many bytes
abbrev pub is_filter_size : ℕ → Bool
is_filter_size n = (n == 1024) || ((n == 4096) || (n == 16384))

-- one of the two-byte numbers of which a repository's name begins with seven
abbrev pub number_at : Rid → ℕ → ℕ
number_at rid k = from_be_bytes w16 (slice_index rid.0.0 (2 * k) ∷ slice_index rid.0.0 (2 * k + 1) ∷ [])

-- the bits of a repository in a filter of so many bytes: the first seven numbers of its name, each
-- modulo the count of the filter's bits
abbrev pub bits_of : ℕ → Rid → List ℕ
bits_of size rid = map (λ k. number_at rid k % (8 * size)) (0 ∷ 1 ∷ 2 ∷ 3 ∷ 4 ∷ 5 ∷ 6 ∷ [])

-- whether a bit is set: that of weight 2^(i mod 8) in the byte i / 8
abbrev pub has_bit : List ℕ → ℕ → Bool
has_bit filter i = bit_at (slice_index filter (i / 8)) (i % 8) == 1

-- whether all bits of a repository are set
abbrev pub filter_has : List ℕ → Rid → Bool
filter_has filter rid = list_all (has_bit filter) (bits_of (length filter) rid)

-- these bits are set too, and no other
pub record Sets (bits old new : List ℕ) : Type 0 where
  pub size : length new ≡ length old
  pub each : (i : ℕ) → i < 8 * length old → has_bit new i ≡ (has_bit old i || list_any (λ bit. i == bit) bits)

-- the bits of a repository are
abbrev pub Adds : Rid → List ℕ → List ℕ → Type 0
Adds rid old new = Sets (bits_of (length old) rid) old new
