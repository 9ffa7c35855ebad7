-- Fronts of bytes, which can be read in one way only.
use Rattle.std.proofs.Common.{◌≡◌, ◌≢◌, ℕ, suc, ◌+◌, ◌-◌, ◌*◌, ◌<◌, ◌≤◌, nat_eq, true, false, List, [], ◌∷◌, ◌++◌, length, get_or, take, drop, Option, Some, None, refl, sym, ap, ◌∙◌, arith, length-append, length-drop, take-append-drop, inl, inr}
use Rattle.std.proofs.lemmas.Bool.{cases_lt}
use Rattle.std.proofs.lemmas.Bool.Decides.{Decides-eqb}
use Rattle.std.proofs.lemmas.List.{get_or-take, get_or_default, take_all, take_at, drop_at, length-take, length-take-le}
use Rattle.std.proofs.lemmas.Slice.Eq.{strip_prefix_is}
use Rattle.std.proofs.Math.ListN.{get_or-eq_default}
use Rattle.std.proofs.Math.Seq.{drop-cons}
use Rattle.std.specs.Prelude.{IfSome, IfNone, MatchOption}
use Rattle.std.specs.Borrow.{Bor}
use Rattle.std.specs.Cmp.Lexicographic.{pointwise}
use Rattle.hex.specs.Hex.{IsBytes, encode_lower, lower_digits}
use Rattle.hex.proofs.HexLemmas.{decode_of-encode_lower, decode_of-same, length-encode_with}
use Rattle.rad_base.specs.Hexadecimal.{IsHexText}
use Rattle.rad_base.specs.Sizes.{HasBytes, Lacks}
use Rattle.rad_base.proofs.HexText.{is_hex_text}
use Rattle.rad_base.specs.declared.names.Oid.{Oid}
use Rattle.rad_base.specs.declared.names.Nid.{Nid}
use Rattle.rad_base.specs.declared.names.Sig.{Sig}

-- a fact on nothing found
pub if_none : {X : Type 0} (o : Option X) (P : Type 0) → P → IfNone o P
if_none None P h = h
if_none (Some x) P h = tt

-- what stripping a prefix says of bytes
pub record Strips (bytes word : List ℕ) (result : Option (Bor (List ℕ))) : Type 0 where
  pub found : IfSome result (λ rest. bytes ≡ word ++ rest.now)
  pub none : IfNone result ((rest : List ℕ) → bytes ≡ word ++ rest → ⊥)

strips_from : (bytes word : List ℕ) (r : Option (Bor (List ℕ)))
    → MatchOption r ((rest : List ℕ) → bytes ≢ word ++ rest) (λ x. bytes ≡ word ++ x.now) → Strips bytes word r
strips_from bytes word None h = record { found = tt; none = h }
strips_from bytes word (Some x) h = record { found = h; none = tt }

-- stripping a prefix finds what stands behind it, and fails where it does not stand in front
pub strips : (bytes word : List ℕ) (r : Option (Bor (List ℕ)))
    → MatchOption r (pointwise nat_eq (take (length word) bytes) word ≡ false)
    (λ x. (pointwise nat_eq (take (length word) bytes) word ≡ true) × (x.now ≡ drop (length word) bytes) × (length x.now + length word ≡ length bytes))
    → Strips bytes word r
strips bytes word r h = strips_from bytes word r (strip_prefix_is Decides-eqb bytes word r h)

-- at most one list of a length stands in front
pub one_front : (x y a b : List ℕ) → length x ≡ length y → x ++ a ≡ y ++ b → (x ≡ y) × (a ≡ b)
one_front x y a b size e = (
  sym (take_at x a (length x) refl) ∙ ap (take (length x)) e ∙ take_at y b (length x) (sym size),
  sym (drop_at x a (length x) refl) ∙ ap (drop (length x)) e ∙ drop_at y b (length x) (sym size),
)

-- at most one list stands behind an item in front
pub one_behind : {X : Type 0} (x : X) (xs ys : List X) → x ∷ xs ≡ x ∷ ys → xs ≡ ys
one_behind x xs ys e = cc e

bytes_in_front : (n : ℕ) (bytes : List ℕ) → IsBytes bytes → IsBytes (take n bytes)
bytes_in_front n bytes fits i =
    elim (cases_lt i n) [
      | inl below ↦ rw (get_or-take n bytes i 0 below) (fits i)
      | inr high ↦ elim (cases_lt i (length (take n bytes))) [
        | inl inside ↦ absurd (omega (arith, length-take n bytes))
        | inr outside ↦ rw (get_or-eq_default (take n bytes) 0 outside) (omega arith)
      ]
    ]

-- the first n bytes of some bytes, and the rest
pub record IsFront (n : ℕ) (bytes front rest : List ℕ) : Type 0 where
  pub whole : HasBytes n front
  pub split : bytes ≡ front ++ rest

-- what stands in the first n bytes, where there are as many
pub front_of : (n : ℕ) (bytes front rest : List ℕ) → n ≤ length bytes → IsBytes bytes → front ≡ take n bytes → rest ≡ drop n bytes
    → IsFront n bytes front rest
front_of n bytes front rest enough fits f r = record {
  whole = record {
    size = ap length f ∙ length-take-le n bytes enough;
    fits = rw f (bytes_in_front n bytes fits);
  };
  split = rw (f, r) (sym (take-append-drop n bytes));
}

-- no byte before a place is the one that stops there
pub record StopsAt (stop at : ℕ) (bytes : List ℕ) : Type 0 where
  pub inside : at < length bytes
  pub before : (k : ℕ) → k < at → get_or bytes k 0 ≢ stop
  pub here : get_or bytes at 0 ≡ stop

pub lacks_from : (stop : ℕ) (bytes : List ℕ) → ((k : ℕ) → k < length bytes → get_or bytes k 0 ≢ stop) → Lacks stop bytes
lacks_from stop bytes h k d inside e = h k inside (get_or_default bytes k 0 d inside ∙ e)

lacks_front : (stop at : ℕ) (bytes : List ℕ) → StopsAt stop at bytes → Lacks stop (take at bytes)
lacks_front stop at bytes s = lacks_from stop (take at bytes) (λ k inside e.
    let size : length (take at bytes) ≡ at = length-take-le at bytes (omega (arith, s.inside)) in
    let below : k < at = omega (arith, size) in
    s.before k below (sym (get_or-take at bytes k 0 below) ∙ e))

-- bytes are what stands before the one that stops, that byte, and what stands behind it
pub stopped : (stop at : ℕ) (bytes : List ℕ) → StopsAt stop at bytes
    → Lacks stop (take at bytes) × (bytes ≡ take at bytes ++ stop ∷ take (length bytes - (at + 1)) (drop (at + 1) bytes))
stopped stop at bytes s = (
  lacks_front stop at bytes s,
  sym (take-append-drop at bytes) ∙ ap (λ (l : List ℕ). take at bytes ++ l) (tail_of stop at bytes s),
)
  where
    tail_of : (stop at : ℕ) (bytes : List ℕ) → StopsAt stop at bytes
        → drop at bytes ≡ stop ∷ take (length bytes - (at + 1)) (drop (at + 1) bytes)
    tail_of stop at bytes s =
        let whole : take (length bytes - (at + 1)) (drop (at + 1) bytes) ≡ drop (at + 1) bytes
        = take_all (length bytes - (at + 1)) (drop (at + 1) bytes) (omega (arith, length-drop (at + 1) bytes)) in
        let head : drop at bytes ≡ get_or bytes at 0 ∷ drop (suc at) bytes = drop-cons bytes at 0 s.inside in
        let next : suc at ≡ at + 1 = omega arith in
        rw (whole, head, s.here, next) refl

-- at most one list stands before the first byte that stops
pub one_until : (stop : ℕ) (x y a b : List ℕ) → Lacks stop x → Lacks stop y → x ++ stop ∷ a ≡ y ++ stop ∷ b → (x ≡ y) × (a ≡ b)
one_until stop [] [] a b hx hy e = (refl, cc)
one_until stop [] (d ∷ y) a b hx hy e =
    let same : stop ≡ d = cc in
    absurd (hy 0 0 (omega arith) (sym same))
one_until stop (c ∷ x) [] a b hx hy e =
    let same : c ≡ stop = cc in
    absurd (hx 0 0 (omega arith) same)
one_until stop (c ∷ x) (d ∷ y) a b hx hy e =
    let head : c ≡ d = cc in
    let tail : x ++ stop ∷ a ≡ y ++ stop ∷ b = cc in
    let rest = one_until stop x y a b (λ k z h. hx (suc k) z (omega arith)) (λ k z h. hy (suc k) z (omega arith)) tail in
    let same = rest.0 in
    (cc, rest.1)

-- bytes that lack one byte do not have it between two parts
pub not_lacking : (stop : ℕ) (x a : List ℕ) → Lacks stop (x ++ stop ∷ a) → ⊥
not_lacking stop [] a h = h 0 0 (omega arith) refl
not_lacking stop (c ∷ x) a h = not_lacking stop x a (λ k d inside. h (suc k) d (omega arith))

-- bytes that are spelled alike in hexadecimal are equal
pub one_spelling : (n : ℕ) (x y : List ℕ) → HasBytes n x → HasBytes n y → encode_lower x ≡ encode_lower y → x ≡ y
one_spelling n x y hx hy e =
    decode_of-same (encode_lower x) x y (decode_of-encode_lower x hx.fits) (rw e (decode_of-encode_lower y hy.fits))

-- at most one hexadecimal text of n bytes stands in front
pub one_text : (n : ℕ) (x y a b : List ℕ) → HasBytes n x → HasBytes n y → encode_lower x ++ a ≡ encode_lower y ++ b → (x ≡ y) × (a ≡ b)
one_text n x y a b hx hy e =
    let parts = one_front (encode_lower x) (encode_lower y) a b (text_size n x hx ∙ sym (text_size n y hy)) e in
    (one_spelling n x y hx hy parts.0, parts.1)
  where
    text_size : (n : ℕ) (x : List ℕ) → HasBytes n x → length (encode_lower x) ≡ 2 * n
    text_size n x h = length-encode_with lower_digits x ∙ rw h.size refl

-- fewer bytes than a text of n bytes has do not begin with one
pub no_text_short : (n : ℕ) (bytes : List ℕ) → length bytes < 2 * n → (x rest : List ℕ) → HasBytes n x → bytes ≡ encode_lower x ++ rest → ⊥
no_text_short n bytes short x rest h e =
    omega (arith, short, ap length e, length-append (encode_lower x) rest, length-encode_with lower_digits x, h.size)

-- nor do bytes whose first 2n are no text
pub no_text_here : (n : ℕ) (bytes front : List ℕ) → front ≡ take (2 * n) bytes → (IsHexText n front → ⊥)
    → (x rest : List ℕ) → HasBytes n x → bytes ≡ encode_lower x ++ rest → ⊥
no_text_here n bytes front f none x rest h e =
    let text = is_hex_text n x h in
    let same : front ≡ encode_lower x = f ∙ ap (take (2 * n)) e ∙ take_at (encode_lower x) rest (2 * n) text.size in
    none (rw same text)

-- bytes whose first 2n spell x begin with its text
pub text_front : (n : ℕ) (bytes front rest x : List ℕ) → front ≡ take (2 * n) bytes → rest ≡ drop (2 * n) bytes → front ≡ encode_lower x
    → bytes ≡ encode_lower x ++ rest
text_front n bytes front rest x f r same = sym (take-append-drop (2 * n) bytes) ∙ rw (sym f, sym r, same) refl

-- at most one name, as 20 bytes, stands in front
pub one_oid : (x y : Oid) (a b : List ℕ) → HasBytes 20 x.0 → HasBytes 20 y.0 → x.0 ++ a ≡ y.0 ++ b → (x ≡ y) × (a ≡ b)
one_oid x y a b hx hy e =
    let parts = one_front x.0 y.0 a b (hx.size ∙ sym hy.size) e in
    (ap (λ (bytes : List ℕ). let oid : Oid = record { 0 = bytes } in oid) parts.0, parts.1)

-- at most one key, as 32 bytes, stands in front
pub one_nid : (x y : Nid) (a b : List ℕ) → HasBytes 32 x.0 → HasBytes 32 y.0 → x.0 ++ a ≡ y.0 ++ b → (x ≡ y) × (a ≡ b)
one_nid x y a b hx hy e =
    let parts = one_front x.0 y.0 a b (hx.size ∙ sym hy.size) e in
    (ap (λ (bytes : List ℕ). let nid : Nid = record { 0 = bytes } in nid) parts.0, parts.1)

-- at most one name, as a text, stands in front
pub one_oid_text : (x y : Oid) (a b : List ℕ) → HasBytes 20 x.0 → HasBytes 20 y.0 → encode_lower x.0 ++ a ≡ encode_lower y.0 ++ b
    → (x ≡ y) × (a ≡ b)
one_oid_text x y a b hx hy e =
    let parts = one_text 20 x.0 y.0 a b hx hy e in
    (ap (λ (bytes : List ℕ). let oid : Oid = record { 0 = bytes } in oid) parts.0, parts.1)

-- at most one key, as a text, stands in front
pub one_nid_text : (x y : Nid) (a b : List ℕ) → HasBytes 32 x.0 → HasBytes 32 y.0 → encode_lower x.0 ++ a ≡ encode_lower y.0 ++ b
    → (x ≡ y) × (a ≡ b)
one_nid_text x y a b hx hy e =
    let parts = one_text 32 x.0 y.0 a b hx hy e in
    (ap (λ (bytes : List ℕ). let nid : Nid = record { 0 = bytes } in nid) parts.0, parts.1)

-- at most one signature, as a text, stands in front
pub one_sig_text : (x y : Sig) (a b : List ℕ) → HasBytes 64 x.0 → HasBytes 64 y.0 → encode_lower x.0 ++ a ≡ encode_lower y.0 ++ b
    → (x ≡ y) × (a ≡ b)
one_sig_text x y a b hx hy e =
    let parts = one_text 64 x.0 y.0 a b hx hy e in
    (ap (λ (bytes : List ℕ). let sig : Sig = record { 0 = bytes } in sig) parts.0, parts.1)
