-- Setting one bit of some bytes.
use Rattle.std.proofs.Common.{◌≡◌, ℕ, ◌+◌, ◌*◌, ◌/◌, ◌%◌, ◌^◌, ◌<◌, ◌≤◌, ◌==◌, Bool, true, false, ◌||◌, ◌≢◌, List, [], ◌∷◌, ◌++◌, length, slice_index, slice_index_or, slice_set, take, drop, refl, sym, ap, ⊎_elim, ◌∙◌, arith, bit_or, w8}
use Rattle.std.specs.List.{list_any}
use Rattle.std.specs.Int.{bit_at}
use Rattle.std.proofs.lemmas.Bool.{cases_eq, eq-eqb, ne_eqb}
use Rattle.std.proofs.lemmas.List.{append-nil, drop_all, get_or-set_other, get_or-set_same, take_all}
use Rattle.std.proofs.lemmas.Nat.Bits.{bit_at_set_same, bit_at_set_other}
use Rattle.announcements.specs.Filters.{Sets, has_bit}

-- the bytes with a bit set
abbrev pub with_bit : List ℕ → ℕ → List ℕ
with_bit bytes i = slice_set bytes (i / 8) (bit_or (slice_index_or bytes (i / 8) 0) (1 * 2 ^ (i % 8) % 256))

or_false : (a b : Bool) → b ≡ false → (a || b) ≡ a
or_false true b e = refl
or_false false b e = e

or_true : (a b : Bool) → b ≡ true → (a || b) ≡ true
or_true true b e = refl
or_true false b e = e

-- the byte of another bit stays, or its other bits do
other_bit : (bytes : List ℕ) (i j : ℕ) → i < 8 * length bytes → (j ≡ i → ⊥)
    → bit_at (slice_index (with_bit bytes i) (j / 8)) (j % 8) ≡ bit_at (slice_index bytes (j / 8)) (j % 8)
other_bit bytes i j inside apart =
    ⊎_elim
    (λ (one : j / 8 ≡ i / 8).
    let n = slice_index_or bytes (i / 8) 0 in
    let far : j % 8 ≢ i % 8 = λ h. apart (omega arith) in
    let now : slice_index (with_bit bytes i) (j / 8) ≡ bit_or n (1 * 2 ^ (i % 8) % 256) =
    ap (slice_index (with_bit bytes i)) one ∙ get_or-set_same bytes (i / 8) (bit_or n (1 * 2 ^ (i % 8) % 256)) 0 (omega arith) in
    ap (λ (x : ℕ). bit_at x (j % 8)) now ∙ bit_at_set_other w8 n (i % 8) (omega arith) (j % 8) far
    ∙ ap (λ (x : ℕ). bit_at (slice_index bytes x) (j % 8)) (sym one))
    (λ (two : j / 8 ≡ i / 8 → ⊥).
    ap (λ (x : ℕ). bit_at x (j % 8)) (get_or-set_other bytes (i / 8) (j / 8) (bit_or (slice_index_or bytes (i / 8) 0) (1 * 2 ^ (i % 8) % 256)) 0 two))
    (cases_eq (j / 8) (i / 8))

this_bit : (bytes : List ℕ) (i : ℕ) → i < 8 * length bytes → bit_at (slice_index (with_bit bytes i) (i / 8)) (i % 8) ≡ 1
this_bit bytes i inside =
    let n = slice_index_or bytes (i / 8) 0 in
    let now : slice_index (with_bit bytes i) (i / 8) ≡ bit_or n (1 * 2 ^ (i % 8) % 256) =
    get_or-set_same bytes (i / 8) (bit_or n (1 * 2 ^ (i % 8) % 256)) 0 (omega arith) in
    ap (λ (x : ℕ). bit_at x (i % 8)) now ∙ bit_at_set_same w8 n (i % 8) (omega arith)

-- with a bit set, that one is set, and each other one is as it was
pub set_one : (bytes : List ℕ) (i j : ℕ) → i < 8 * length bytes
    → has_bit (with_bit bytes i) j ≡ (has_bit bytes j || j == i)
set_one bytes i j inside =
    ⊎_elim
    (λ (one : j ≡ i).
    let set_now : has_bit (with_bit bytes i) i ≡ true = ap (λ (x : ℕ). x == 1) (this_bit bytes i inside) in
    ap (has_bit (with_bit bytes i)) one ∙ set_now ∙ sym (or_true (has_bit bytes j) (j == i) (eq-eqb j i one)))
    (λ (apart : j ≡ i → ⊥).
    ap (λ (x : ℕ). x == 1) (other_bit bytes i j inside apart) ∙ sym (or_false (has_bit bytes j) (j == i) (ne_eqb j i apart)))
    (cases_eq j i)

-- a bit behind the last byte is no other
pub set_none : (bytes : List ℕ) (i j : ℕ) → length bytes ≤ i / 8 → j < 8 * length bytes
    → has_bit bytes j ≡ (has_bit bytes j || j == i)
set_none bytes i j behind inside = sym (or_false (has_bit bytes j) (j == i) (ne_eqb j i (λ h. omega (arith, h, behind, inside))))

or_assoc : (a b c : Bool) → ((a || b) || c) ≡ (a || (b || c))
or_assoc true b c = refl
or_assoc false b c = refl

any_push : (bits : List ℕ) (i j : ℕ) → list_any (λ bit. j == bit) (bits ++ i ∷ []) ≡ (list_any (λ bit. j == bit) bits || j == i)
any_push [] i j = or_false (j == i) false refl
any_push (x ∷ bits) i j = ap (λ (b : Bool). (j == x) || b) (any_push bits i j) ∙ sym (or_assoc (j == x) (list_any (λ bit. j == bit) bits) (j == i))

-- one bit more
pub set_more : (bits : List ℕ) (i : ℕ) (old mid new : List ℕ) → Sets bits old mid → length new ≡ length mid
    → ((j : ℕ) → j < 8 * length mid → has_bit new j ≡ (has_bit mid j || j == i)) → Sets (bits ++ i ∷ []) old new
set_more bits i old mid new before size set_it = record {
  size = size ∙ before.size;
  each = λ j inside. set_it j (omega (arith, inside, before.size)) ∙ ap (λ (b : Bool). b || j == i) (before.each j inside)
      ∙ or_assoc (has_bit old j) (list_any (λ bit. j == bit) bits) (j == i)
      ∙ ap (λ (b : Bool). has_bit old j || b) (sym (any_push bits i j));
}

-- no bit is set
pub set_nothing : (bytes : List ℕ) → Sets [] bytes bytes
set_nothing bytes = record { size = refl; each = λ j inside. sym (or_false (has_bit bytes j) false refl) }

-- bytes that were all written again
pub whole : (n : ℕ) (old new : List ℕ) → length new ≡ length old → length old ≡ n → take n (new ++ drop (length new) old) ≡ new
whole n old new size count =
    let none : drop (length new) old ≡ [] = drop_all (length new) old (omega (arith, size)) in
    rw (none, append-nil new) (take_all n new (omega (arith, size, count)))
