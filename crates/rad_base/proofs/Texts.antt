-- Texts of items, one behind the other, where the item in front is one.
use Rattle.std.proofs.Common.{◌≡◌, ℕ, ◌+◌, ◌<◌, List, [], ◌∷◌, ◌++◌, length, refl, sym, ap, ◌∙◌, arith, append_assoc, append-nil, length-append}
use Rattle.std.specs.List.{AllByRecursion, flat_map}
use Rattle.std.proofs.lemmas.Grind.{flat_map-append}
use Rattle.rad_base.specs.Lists.{AreItems}
use Rattle.rad_base.proofs.EachItem.{each_more}

-- bytes begin with the text of at most one item, and one rest follows
abbrev pub OneInFront : {X : Type 0} → (X → Type 0) → (X → List ℕ) → Type 0
OneInFront {X} Is text = (x y : X) (a b : List ℕ) → Is x → Is y → text x ++ a ≡ text y ++ b → (x ≡ y) × (a ≡ b)

-- as many items in front are one list
pub all_one : {X : Type 0} (Is : X → Type 0) (text : X → List ℕ) → OneInFront Is text → (xs ys : List X) (a b : List ℕ) → length xs ≡ length ys
    → AllByRecursion Is xs → AllByRecursion Is ys → flat_map text xs ++ a ≡ flat_map text ys ++ b → (xs ≡ ys) × (a ≡ b)
all_one Is text one [] [] a b n hx hy e = (refl, e)
all_one Is text one [] (y ∷ ys) a b n hx hy e = absurd (omega (arith, n))
all_one Is text one (x ∷ xs) [] a b n hx hy e = absurd (omega (arith, n))
all_one Is text one (x ∷ xs) (y ∷ ys) a b n hx hy e =
    let first = one x y (flat_map text xs ++ a) (flat_map text ys ++ b) hx.0 hy.0
    (sym (append_assoc (text x) (flat_map text xs) a) ∙ e ∙ append_assoc (text y) (flat_map text ys) b) in
    let rest = all_one Is text one xs ys a b (omega (arith, n)) hx.1 hy.1 first.1 in
    ((λ i. first.0 i ∷ rest.0 i), rest.1)

-- behind the first of these items the next one stands in front of the rest
pub record Stands {X : Type 0} (Is : X → Type 0) (text : X → List ℕ) (front all : List X) (rest : List ℕ) : Type 0 where
  pub next : X
  pub more : List X
  pub is : Is next
  pub whole : all ≡ front ++ next ∷ more
  pub begins : rest ≡ text next ++ flat_map text more

-- where fewer items were read than there are, the next one follows
pub next_one : {X : Type 0} (Is : X → Type 0) (text : X → List ℕ) → OneInFront Is text → (xs ys : List X) (rest : List ℕ) → length xs < length ys
    → AllByRecursion Is xs → AllByRecursion Is ys → flat_map text xs ++ rest ≡ flat_map text ys → Stands Is text xs ys rest
next_one Is text one [] [] rest n hx hy e = absurd (omega (arith, n))
next_one Is text one [] (y ∷ ys) rest n hx hy e = record { next = y; more = ys; is = hy.0; whole = refl; begins = e }
next_one Is text one (x ∷ xs) [] rest n hx hy e = absurd (omega (arith, n))
next_one Is text one (x ∷ xs) (y ∷ ys) rest n hx hy e =
    let first = one x y (flat_map text xs ++ rest) (flat_map text ys) hx.0 hy.0 (sym (append_assoc (text x) (flat_map text xs) rest) ∙ e) in
    let later = next_one Is text one xs ys rest (omega (arith, n)) hx.1 hy.1 first.1 in
    record {
      next = later.next;
      more = later.more;
      is = later.is;
      whole = λ i. sym first.0 i ∷ later.whole i;
      begins = later.begins;
    }

-- the texts of items and of one more
pub texts_more : {X : Type 0} (text : X → List ℕ) (xs : List X) (x : X) (bytes rest more : List ℕ) → bytes ≡ flat_map text xs ++ rest → rest ≡ text x ++ more
    → bytes ≡ flat_map text (xs ++ x ∷ []) ++ more
texts_more text xs x bytes rest more e h =
    e ∙ ap (λ (l : List ℕ). flat_map text xs ++ l) h ∙ sym (append_assoc (flat_map text xs) (text x) more)
    ∙ ap (λ (l : List ℕ). l ++ more) (ap (λ (l : List ℕ). flat_map text xs ++ l) (sym (append-nil (text x))) ∙ sym (flat_map-append text xs (x ∷ [])))

-- so many items were read, and this is left
pub record HasItems {X : Type 0} (Is : X → Type 0) (spell : X → List ℕ) (bytes : List ℕ) (n : ℕ) (items : List X) (rest : List ℕ) : Type 0 where
  pub each : AllByRecursion Is items
  pub count : length items ≡ n
  pub text : bytes ≡ flat_map spell items ++ rest

-- one more item was read
pub items_more : {X : Type 0} (Is : X → Type 0) (spell : X → List ℕ) (bytes : List ℕ) (n : ℕ) (items : List X) (rest more : List ℕ) (x : X)
    → HasItems Is spell bytes n items rest → Is x → rest ≡ spell x ++ more → HasItems Is spell bytes (n + 1) (items ++ x ∷ []) more
items_more Is spell bytes n items rest more x h is e = record {
  each = each_more Is items x h.each is;
  count = omega (arith, h.count, length-append items (x ∷ []));
  text = texts_more spell items x bytes rest more h.text e;
}

-- where there are more items than were read, the next one stands in front of the rest
pub next_item : {X : Type 0} (Is : X → Type 0) (spell : X → List ℕ) → OneInFront Is spell → (bytes : List ℕ) (n count : ℕ) (items : List X) (rest : List ℕ)
    → HasItems Is spell bytes n items rest → n < count → (all : List X) → AreItems Is spell bytes count all → Stands Is spell items all rest
next_item Is spell one bytes n count items rest h few all are =
    next_one Is spell one items all rest (omega (arith, few, h.count, are.count)) h.each are.each (sym h.text ∙ are.text)

-- where no item stands next, there are not so many
pub no_items : {X : Type 0} (Is : X → Type 0) (spell : X → List ℕ) → OneInFront Is spell → (bytes : List ℕ) (n count : ℕ) (items : List X) (rest : List ℕ)
    → HasItems Is spell bytes n items rest → n < count → ((x : X) (more : List ℕ) → Is x → rest ≡ spell x ++ more → ⊥)
    → (all : List X) → AreItems Is spell bytes count all → ⊥
no_items Is spell one bytes n count items rest h few none all are =
    let s = next_item Is spell one bytes n count items rest h few all are in
    none s.next (flat_map spell s.more) s.is s.begins

-- where all were read and something is left, they are not all of the bytes
pub items_not_all : {X : Type 0} (Is : X → Type 0) (spell : X → List ℕ) → OneInFront Is spell → (bytes : List ℕ) (n : ℕ) (items : List X) (rest : List ℕ)
    → HasItems Is spell bytes n items rest → (rest ≡ [] → ⊥) → (all : List X) → AreItems Is spell bytes n all → ⊥
items_not_all Is spell one bytes n items rest h left all are =
    left ((all_one Is spell one items all rest [] (h.count ∙ sym are.count) h.each are.each
    (sym h.text ∙ are.text ∙ sym (append-nil (flat_map spell all)))).1)

-- where all were read and nothing is left, they are the bytes
pub items_all : {X : Type 0} (Is : X → Type 0) (spell : X → List ℕ) (bytes : List ℕ) (n : ℕ) (items : List X) (rest : List ℕ)
    → HasItems Is spell bytes n items rest → rest ≡ [] → AreItems Is spell bytes n items
items_all Is spell bytes n items rest h done = record {
  each = h.each;
  count = h.count;
  text = h.text ∙ ap (λ (l : List ℕ). flat_map spell items ++ l) done ∙ append-nil (flat_map spell items);
}
