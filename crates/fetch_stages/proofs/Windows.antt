-- Windows of a buffer, and bytes that are used.
use Rattle.std.proofs.Common.{◌≡◌, ◌≤◌, ◌<◌, ℕ, List, [], ◌∷◌, ◌++◌, Bool, true, false, Option, Some, None, length, take, drop, ◌+◌, ◌-◌, arith, refl, sym, ap, ◌∙◌, subst, append_assoc}
use Rattle.std.specs.Prelude.{◌==◌, slice_range}
use Rattle.std.proofs.lemmas.List.{append-nil, drop-drop, drop-take, length-take, nil_from_length, take-append-drop, take-take}
use Rattle.std.specs.Io.KnownBytes.{Consumes}
use Rattle.rad_base.proofs.Conditions.{differ}
use Rattle.fetch_stages.specs.Pieces.{Fills, Uses}

-- what of a window is left behind its first bytes
pub later_window : (p : List ℕ) (a n b : ℕ) (whole : List ℕ) → slice_range p a b ≡ whole → n ≤ length whole
    → slice_range p (a + n) b ≡ drop n whole
later_window p a n b whole e h =
    let inside : n ≤ length (take (b - a) (drop a p)) = subst (λ (l : List ℕ). n ≤ length l) (sym e) h in
    let size = length-take (b - a) (drop a p) in
    let count : b - a ≡ n + (b - (a + n)) = omega (arith, inside, size) in
    sym (ap (λ (l : List ℕ). drop n l) (sym e) ∙ ap (λ (k : ℕ). drop n (take k (drop a p))) count
    ∙ drop-take n (b - (a + n)) (drop a p) ∙ ap (λ (l : List ℕ). take (b - (a + n)) l) (drop-drop n a p))

-- bytes behind bytes
pub consumes_more : (a b c : Option (List ℕ)) (xs ys : List ℕ) → Consumes a b xs → Consumes b c ys
    → Consumes a c (xs ++ ys)
consumes_more None b c xs ys f g = tt
consumes_more (Some x) None c xs ys f g = absurd f
consumes_more (Some x) (Some y) None xs ys f g = absurd g
consumes_more (Some x) (Some y) (Some z) xs ys f g =
    f ∙ ap (λ (l : List ℕ). xs ++ l) g ∙ sym (append_assoc xs ys z)

-- nothing is used yet
pub uses_none : (o : Option (List ℕ)) (waiting : List ℕ) → Uses o o waiting [] waiting
uses_none None waiting = record { taken = []; consumed = tt; text = append-nil waiting }
uses_none (Some x) waiting = record { taken = []; consumed = refl; text = append-nil waiting }

-- more bytes are taken
pub uses_filled : (old mid new : Option (List ℕ)) (before used after filled : List ℕ)
    → Uses old mid before used after → Fills mid new after filled → Uses old new before used filled
uses_filled old mid new before used after filled u f = record {
  taken = u.taken ++ f.bytes;
  consumed = consumes_more old mid new u.taken f.bytes u.consumed f.consumed;
  text = sym (append_assoc before u.taken f.bytes) ∙ ap (λ (l : List ℕ). l ++ f.bytes) u.text
      ∙ append_assoc used after f.bytes ∙ ap (λ (l : List ℕ). used ++ l) (sym f.waits);
}

-- bytes were taken before
pub uses_behind : (old mid new : Option (List ℕ)) (before filled used after : List ℕ)
    → Fills old mid before filled → Uses mid new filled used after → Uses old new before used after
uses_behind old mid new before filled used after f u = record {
  taken = f.bytes ++ u.taken;
  consumed = consumes_more old mid new f.bytes u.taken f.consumed u.consumed;
  text = sym (append_assoc before f.bytes u.taken) ∙ ap (λ (l : List ℕ). l ++ u.taken) (sym f.waits) ∙ u.text;
}

-- bytes are used behind bytes
pub uses_along : (old mid new : Option (List ℕ)) (before used between more after : List ℕ)
    → Uses old mid before used between → Uses mid new between more after → Uses old new before (used ++ more) after
uses_along old mid new before used between more after f g = record {
  taken = f.taken ++ g.taken;
  consumed = consumes_more old mid new f.taken g.taken f.consumed g.consumed;
  text = sym (append_assoc before f.taken g.taken) ∙ ap (λ (l : List ℕ). l ++ g.taken) f.text
      ∙ append_assoc used between g.taken ∙ ap (λ (l : List ℕ). used ++ l) g.text ∙ sym (append_assoc used more after);
}

-- all that waits is used
pub uses_all : (old new : Option (List ℕ)) (before used after : List ℕ) → Uses old new before used after
    → Uses old new before (used ++ after) []
uses_all old new before used after u = record {
  taken = u.taken;
  consumed = u.consumed;
  text = u.text ∙ sym (append-nil (used ++ after));
}

-- the first bytes of what waits are used, all of them that are there
pub uses_front : (old new : Option (List ℕ)) (before used after : List ℕ) (n : ℕ) → Uses old new before used after
    → Uses old new before (used ++ take n after) (drop n after)
uses_front old new before used after n u = record {
  taken = u.taken;
  consumed = u.consumed;
  text = u.text ∙ ap (λ (l : List ℕ). used ++ l) (sym (take-append-drop n after))
      ∙ sym (append_assoc used (take n after) (drop n after));
}

-- what is taken once more waits behind
pub fills_behind : (old new : Option (List ℕ)) (before after other : List ℕ) (f : Fills old new before after)
    → Fills old new other (other ++ f.bytes)
fills_behind old new before after other f = record { bytes = f.bytes; consumed = f.consumed; waits = refl }

-- the first bytes of what waits are used
pub uses_more : (old new : Option (List ℕ)) (before used after : List ℕ) (n most : ℕ)
    → Uses old new before used after → n ≤ length (take most after)
    → Uses old new before (used ++ take n (take most after)) (drop n after)
uses_more old new before used after n most u h =
    let size = length-take most after in
    let least : n ≤ most = omega (arith, h, size) in
    let first : take n (take most after) ++ drop n after ≡ after =
    ap (λ (l : List ℕ). l ++ drop n after) (take-take n most after least) ∙ take-append-drop n after in
    record {
      taken = u.taken;
      consumed = u.consumed;
      text = u.text ∙ ap (λ (l : List ℕ). used ++ l) (sym first)
          ∙ sym (append_assoc used (take n (take most after)) (drop n after));
    }

-- a test whether bytes are left that held
pub none_left : (l : List ℕ) (empty : Bool) → empty ≡ (length l == 0) → empty ≡ true → l ≡ []
none_left l empty e t = nil_from_length l (grind (arith, e, t))

-- one that failed
pub some_left : (l : List ℕ) (empty : Bool) → empty ≡ (length l == 0) → empty ≡ false → 0 < length l
some_left [] empty e f = absurd (differ empty e f)
some_left (x ∷ l) empty e f = omega arith
