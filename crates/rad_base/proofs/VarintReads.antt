-- The number at the front of bytes, as it is read.
use Rattle.std.proofs.Common.{◌≡◌, ℕ, ◌-◌, ◌*◌, ◌/◌, ◌^◌, ◌<◌, ◌≤◌, nat_lt, if◌then◌else◌, Bool, true, false, List, [], ◌∷◌, ◌++◌, length, get_or, take, refl, arith, get_or-take}
use Rattle.std.proofs.lemmas.Bool.{cases_lt, ltb-false, ltb-true}
use Rattle.std.proofs.Common.{⊎_elim}
use Rattle.std.proofs.lemmas.List.{get_or_past, length-take}
use Rattle.std.specs.Int.{from_be_bytes, w16, w32, w64}
use Rattle.hex.specs.Hex.{IsBytes}
use Rattle.rad_base.proofs.Varints.{IsChunk, read_eight_is, read_four_is, read_one_is, read_two_is, varint_read}
use Rattle.rad_base.specs.Varint.{ReadsVarint, shortest_or_long, varint, varint_in}
use Rattle.rad_base.specs.declared.varint.Varint.TheVariants.{Value, Short}

-- the first bytes
pub chunk : (k : ℕ) (bytes : List ℕ) → IsBytes bytes → k ≤ length bytes → IsChunk k bytes (take k bytes)
chunk k bytes fits enough = record { enough = enough; small = small; is = refl }
  where
    small : (i : ℕ) → get_or (take k bytes) i 0 < 256
    small i = ⊎_elim (λ h. rw (get_or-take k bytes i 0 h) (fits i)) (λ h. rw (get_or_past (take k bytes) i 0 (omega (arith, length-take k bytes, h))) (omega arith)) (cases_lt i k)

-- what is read is what the definition says
pub reads : (bytes : List ℕ) → IsBytes bytes → ReadsVarint bytes (varint_in bytes)
reads [] fits = tt
reads (b ∷ rest) fits = by_size (nat_lt b 64) (nat_lt b 128) (nat_lt b 192) refl refl refl
  where
    two : (w : Bool) → nat_lt (length (b ∷ rest)) 2 ≡ w → 64 ≤ b → b < 128 → ReadsVarint (b ∷ rest) (if w then Short else shortest_or_long (from_be_bytes w16 (take 2 (b ∷ rest)) - 2 ^ 14) (2 ^ 6) 2)
    two true e low high = let head : b / 64 ≡ 1 = omega arith in rw head (ltb-true _ _ e)
    two false e low high =
        read_two_is (b ∷ rest) (take 2 (b ∷ rest)) (from_be_bytes w16 (take 2 (b ∷ rest))) (chunk 2 (b ∷ rest) fits (ltb-false _ _ e)) (omega arith) refl _ _ refl refl

    four : (w : Bool) → nat_lt (length (b ∷ rest)) 4 ≡ w → 128 ≤ b → b < 192 → ReadsVarint (b ∷ rest) (if w then Short else shortest_or_long (from_be_bytes w32 (take 4 (b ∷ rest)) - 2 ^ 31) (2 ^ 14) 4)
    four true e low high = let head : b / 64 ≡ 2 = omega arith in rw head (ltb-true _ _ e)
    four false e low high =
        read_four_is (b ∷ rest) (take 4 (b ∷ rest)) (from_be_bytes w32 (take 4 (b ∷ rest))) (chunk 4 (b ∷ rest) fits (ltb-false _ _ e)) (omega arith) refl _ _ refl refl

    eight : (w : Bool) → nat_lt (length (b ∷ rest)) 8 ≡ w → 192 ≤ b → ReadsVarint (b ∷ rest) (if w then Short else shortest_or_long (from_be_bytes w64 (take 8 (b ∷ rest)) - 3 * 2 ^ 62) (2 ^ 30) 8)
    eight true e low = let byte : b < 256 = fits 0 in let head : b / 64 ≡ 3 = omega arith in rw head (ltb-true _ _ e)
    eight false e low =
        let byte : b < 256 = fits 0 in
        read_eight_is (b ∷ rest) (take 8 (b ∷ rest)) (from_be_bytes w64 (take 8 (b ∷ rest))) (chunk 8 (b ∷ rest) fits (ltb-false _ _ e)) (omega arith) refl _ _ refl refl

    by_size : (x y z : Bool) → nat_lt b 64 ≡ x → nat_lt b 128 ≡ y → nat_lt b 192 ≡ z → ReadsVarint (b ∷ rest) (if x then Value b 1
        else if y then (if nat_lt (length (b ∷ rest)) 2 then Short else shortest_or_long (from_be_bytes w16 (take 2 (b ∷ rest)) - 2 ^ 14) (2 ^ 6) 2)
        else if z then (if nat_lt (length (b ∷ rest)) 4 then Short else shortest_or_long (from_be_bytes w32 (take 4 (b ∷ rest)) - 2 ^ 31) (2 ^ 14) 4)
        else (if nat_lt (length (b ∷ rest)) 8 then Short else shortest_or_long (from_be_bytes w64 (take 8 (b ∷ rest)) - 3 * 2 ^ 62) (2 ^ 30) 8))
    by_size true y z ex ey ez = read_one_is (b ∷ rest) b refl (ltb-true b 64 ex)
    by_size false true z ex ey ez = two _ refl (ltb-false b 64 ex) (ltb-true b 128 ey)
    by_size false false true ex ey ez = four _ refl (ltb-false b 128 ey) (ltb-true b 192 ez)
    by_size false false false ex ey ez = eight _ refl (ltb-false b 192 ez)

-- a spelling is read as its number, whatever follows
pub reads_back : (n : ℕ) (rest : List ℕ) → n < 2 ^ 62 → IsBytes (varint n ++ rest) → varint_in (varint n ++ rest) ≡ Value n (length (varint n))
reads_back n rest small fits = varint_read n rest (varint_in (varint n ++ rest)) small (reads (varint n ++ rest) fits)
