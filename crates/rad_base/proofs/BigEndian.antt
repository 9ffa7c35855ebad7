-- Numbers in two, four and eight bytes can be read in one way.
use Rattle.std.proofs.Common.{◌≡◌, ℕ, ◌<◌, ◌^◌, List, ◌++◌, refl, sym, ap, ◌∙◌, w16, w32, w64}
use Rattle.std.proofs.lemmas.Nat.{be_bytes_2, be_bytes_4, be_bytes_8, from_be_bytes-to_be_bytes_2, from_be_bytes-to_be_bytes_4, from_be_bytes-to_be_bytes_8}
use Rattle.std.specs.Int.{from_be_bytes, to_be_bytes}
use Rattle.rad_base.specs.Sizes.{HasBytes}
use Rattle.rad_base.proofs.OneFront.{one_front}

-- four bytes are the number that they stand for
pub four_of : (bytes : List ℕ) (n : ℕ) → HasBytes 4 bytes → n ≡ from_be_bytes w32 bytes → to_be_bytes w32 n ≡ bytes
four_of bytes n whole e = be_bytes_4 bytes n whole.size whole.fits e

-- two bytes are the number that they stand for
pub two_of : (bytes : List ℕ) (n : ℕ) → HasBytes 2 bytes → n ≡ from_be_bytes w16 bytes → to_be_bytes w16 n ≡ bytes
two_of bytes n whole e = be_bytes_2 bytes n whole.size whole.fits e

-- the number in front is one
pub one_four : (m n : ℕ) (a b : List ℕ) → m < 2 ^ 32 → n < 2 ^ 32 → to_be_bytes w32 m ++ a ≡ to_be_bytes w32 n ++ b → (m ≡ n) × (a ≡ b)
one_four m n a b small fits e =
    let parts = one_front (to_be_bytes w32 m) (to_be_bytes w32 n) a b refl e in
    (sym (from_be_bytes-to_be_bytes_4 m small) ∙ ap (from_be_bytes w32) parts.0 ∙ from_be_bytes-to_be_bytes_4 n fits, parts.1)

-- the number in front is one
pub one_two : (m n : ℕ) (a b : List ℕ) → m < 2 ^ 16 → n < 2 ^ 16 → to_be_bytes w16 m ++ a ≡ to_be_bytes w16 n ++ b → (m ≡ n) × (a ≡ b)
one_two m n a b small fits e =
    let parts = one_front (to_be_bytes w16 m) (to_be_bytes w16 n) a b refl e in
    (sym (from_be_bytes-to_be_bytes_2 m small) ∙ ap (from_be_bytes w16) parts.0 ∙ from_be_bytes-to_be_bytes_2 n fits, parts.1)

-- eight bytes are the number that they stand for
pub eight_of : (bytes : List ℕ) (n : ℕ) → HasBytes 8 bytes → n ≡ from_be_bytes w64 bytes → to_be_bytes w64 n ≡ bytes
eight_of bytes n whole e = be_bytes_8 bytes n whole.size whole.fits e

-- the number in front is one
pub one_eight : (m n : ℕ) (a b : List ℕ) → m < 2 ^ 64 → n < 2 ^ 64 → to_be_bytes w64 m ++ a ≡ to_be_bytes w64 n ++ b → (m ≡ n) × (a ≡ b)
one_eight m n a b small fits e =
    let parts = one_front (to_be_bytes w64 m) (to_be_bytes w64 n) a b refl e in
    (sym (from_be_bytes-to_be_bytes_8 m small) ∙ ap (from_be_bytes w64) parts.0 ∙ from_be_bytes-to_be_bytes_8 n fits, parts.1)
