-- Digits that are read two at a time, and the bytes that they spell.
use Rattle.std.proofs.Common.{◌≡◌, ℕ, zero, suc, ◌+◌, ◌*◌, ◌/◌, ◌%◌, ◌<◌, ◌≤◌, ◌==◌, not, nat_lt, if◌then◌else◌, Bool, true, false, List, [], ◌∷◌, ◌++◌, length, get_or, set, take, replicate, slice_index, refl, sym, ap, ◌∙◌, arith, append_assoc}
use Rattle.std.proofs.lemmas.Bool.{agree_below_at, eqb-true}
use Rattle.std.proofs.lemmas.List.{take_more}
use Rattle.hex.specs.Hex.{IsBytes, encode_lower, encode_with, lower_digits}
use Rattle.rad_base.specs.Hexadecimal.{is_lower_hex_digit}
use Rattle.git_object.specs.Digits.{digit_value}

-- the table has each digit at its value, and all else has the value 16
abbrev reads_back : ℕ → Bool
reads_back c =
    if nat_lt (digit_value c) 16 then slice_index lower_digits (digit_value c) == c
    else not (is_lower_hex_digit c)

back_there : (b x y : Bool) → (if b then x else y) ≡ true → b ≡ true → x ≡ true
back_there true x y h e = h
back_there false x y h e = cc e

back_none : (b x y : Bool) → (if b then x else y) ≡ true → b ≡ false → y ≡ true
back_none true x y h e = cc e
back_none false x y h e = h

-- a byte whose value is below 16 is that digit
pub digit_there : (c : ℕ) → c < 256 → digit_value c < 16
    → slice_index lower_digits (digit_value c) ≡ c
digit_there c fits small =
    let test = agree_below_at reads_back (λ _. true) 256 c refl fits in
    eqb-true _ _ (back_there (nat_lt (digit_value c) 16) _ _ test (grind (arith, small)))

-- and any other is no digit
pub no_digit : (c : ℕ) → c < 256 → 16 ≤ digit_value c → is_lower_hex_digit c ≡ true → ⊥
no_digit c fits large is =
    let test = agree_below_at reads_back (λ _. true) 256 c refl fits in
    let none = back_none (nat_lt (digit_value c) 16) _ _ test (grind (arith, large)) in
    absurd (cc (none, is))

-- the digits of bytes with one more
encode_more : (bytes : List ℕ) (b : ℕ)
    → encode_lower (bytes ++ b ∷ []) ≡ encode_lower bytes ++ slice_index lower_digits (b / 16) ∷ slice_index lower_digits (b % 16) ∷ []
unfolding encode_with
encode_more [] b = refl
encode_more (x ∷ bytes) b =
    ap (λ (l : List ℕ). slice_index lower_digits (x / 16) ∷ slice_index lower_digits (x % 16) ∷ l) (encode_more bytes b)

-- two digits more
pub two_more : (digits : List ℕ) (k : ℕ) → k + 1 < length digits
    → take (k + 2) digits ≡ take k digits ++ get_or digits k 0 ∷ get_or digits (k + 1) 0 ∷ []
two_more digits k inside =
    let on : k + 2 ≡ (k + 1) + 1 = omega arith in
    ap (λ (n : ℕ). take n digits) on
    ∙ take_more digits (k + 1) 0 inside
    ∙ ap (λ (l : List ℕ). l ++ get_or digits (k + 1) 0 ∷ []) (take_more digits k 0 (omega (arith, inside)))
    ∙ append_assoc (take k digits) (get_or digits k 0 ∷ []) (get_or digits (k + 1) 0 ∷ [])

-- one turn of a loop over pairs of digits
pub pair_more : (digits name name' : List ℕ) (i a c high low : ℕ) → 2 * i + 1 < length digits
    → get_or digits (2 * i) 0 ≡ a → get_or digits (2 * i + 1) 0 ≡ c → a < 256 → c < 256
    → high ≡ digit_value a → low ≡ digit_value c → high < 16 → low < 16
    → take (i + 1) name' ≡ take i name ++ (high * 16 + low) ∷ []
    → take (2 * i) digits ≡ encode_lower (take i name)
    → take (2 * (i + 1)) digits ≡ encode_lower (take (i + 1) name')
pair_more digits name name' i a c high low inside at_a at_c fits_a fits_c is_high is_low small_high small_low grown h =
    let on : 2 * (i + 1) ≡ 2 * i + 2 = omega arith in
    let up : (high * 16 + low) / 16 ≡ high = omega (arith, small_low) in
    let down : (high * 16 + low) % 16 ≡ low = omega (arith, small_low) in
    let first : slice_index lower_digits ((high * 16 + low) / 16) ≡ a =
    ap (slice_index lower_digits) (up ∙ is_high) ∙ digit_there a fits_a (omega (arith, is_high, small_high)) in
    let second : slice_index lower_digits ((high * 16 + low) % 16) ≡ c =
    ap (slice_index lower_digits) (down ∙ is_low) ∙ digit_there c fits_c (omega (arith, is_low, small_low)) in
    ap (λ (n : ℕ). take n digits) on
    ∙ two_more digits (2 * i) inside
    ∙ rw (at_a, at_c, h) refl
    ∙ ap (λ (l : List ℕ). encode_lower (take i name) ++ l) (sym (ap (λ (x : ℕ). x ∷ slice_index lower_digits ((high * 16 + low) % 16) ∷ []) first ∙ ap (λ (x : ℕ). a ∷ x ∷ []) second))
    ∙ sym (encode_more (take i name) (high * 16 + low))
    ∙ ap encode_lower (sym grown)

-- ---- the bytes of a name as they are filled in

pub fits_zeros : (n : ℕ) → IsBytes (replicate n 0)
fits_zeros zero i = omega arith
fits_zeros (suc n) zero = omega arith
fits_zeros (suc n) (suc i) = fits_zeros n i

pub fits_set : (bytes : List ℕ) (i b : ℕ) → IsBytes bytes → b < 256 → IsBytes (set bytes i b)
fits_set [] i b h l k = h k
fits_set (x ∷ bytes) zero b h l zero = l
fits_set (x ∷ bytes) zero b h l (suc k) = h (suc k)
fits_set (x ∷ bytes) (suc i) b h l zero = h zero
fits_set (x ∷ bytes) (suc i) b h l (suc k) = fits_set bytes i b (λ j. h (suc j)) l k

pub none_spelled : [] ≡ encode_lower []
unfolding encode_with
none_spelled = refl

-- the value of each byte: 16 up to 0 to 9, between these and a to f, and behind them
abbrev pub values : List ℕ
values =
    replicate 48 16 ++ (0 ∷ 1 ∷ 2 ∷ 3 ∷ 4 ∷ 5 ∷ 6 ∷ 7 ∷ 8 ∷ 9 ∷ [])
    ++ replicate 39 16 ++ (10 ∷ 11 ∷ 12 ∷ 13 ∷ 14 ∷ 15 ∷ []) ++ replicate 153 16

pub value_read : (c : ℕ) → c < 256 → slice_index values c ≡ digit_value c
value_read c fits =
    eqb-true _ _ (agree_below_at (λ k. slice_index values k == digit_value k) (λ _. true) 256 c refl fits)
