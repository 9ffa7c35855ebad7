-- Objects in bodies can be read in one way.
use Rattle.std.proofs.Common.{◌≡◌, ℕ, ◌<◌, ◌≤◌, ◌^◌, List, ◌∷◌, ◌++◌, length, get_or, drop, refl, sym, ap, ◌∙◌, arith, append_assoc, length-append, w32}
use Rattle.std.specs.Int.{to_be_bytes}
use Rattle.commit_graph.specs.Objects.{Object}
use Rattle.git_object.specs.declared.kind.Kind.{Kind}
use Rattle.git_object.specs.declared.kind.Kind.TheVariants.{Blob, Tree, Commit, Tag}
use Rattle.rad_base.proofs.OneFront.{one_front}
use Rattle.fetch_wire.specs.Sections.{kind_byte}
use Rattle.entry_bodies.specs.Bodies.{held_text}
use Rattle.rad_base.proofs.BigEndian.{one_four}
use Rattle.rad_base.proofs.Texts.{OneInFront}

-- kinds of one byte are one
one_kind : (k l : Kind) → kind_byte k ≡ kind_byte l → k ≡ l
one_kind Blob Blob e = refl
one_kind Blob Tree e = absurd (omega (arith, e))
one_kind Blob Commit e = absurd (omega (arith, e))
one_kind Blob Tag e = absurd (omega (arith, e))
one_kind Tree Blob e = absurd (omega (arith, e))
one_kind Tree Tree e = refl
one_kind Tree Commit e = absurd (omega (arith, e))
one_kind Tree Tag e = absurd (omega (arith, e))
one_kind Commit Blob e = absurd (omega (arith, e))
one_kind Commit Tree e = absurd (omega (arith, e))
one_kind Commit Commit e = refl
one_kind Commit Tag e = absurd (omega (arith, e))
one_kind Tag Blob e = absurd (omega (arith, e))
one_kind Tag Tree e = absurd (omega (arith, e))
one_kind Tag Commit e = absurd (omega (arith, e))
one_kind Tag Tag e = refl

-- the content in front is one
pub one_content : (x y a b : List ℕ) → length x ≤ 33554432 → length y ≤ 33554432
    → to_be_bytes w32 (length x) ++ (x ++ a) ≡ to_be_bytes w32 (length y) ++ (y ++ b) → (x ≡ y) × (a ≡ b)
one_content x y a b hx hy e =
    let sizes = one_four (length x) (length y) (x ++ a) (y ++ b) (omega (arith, hx)) (omega (arith, hy)) e in
    one_front x y a b sizes.0 sizes.1

-- no content stands where too few bytes do
pub no_content_short : (bytes : List ℕ) → length bytes < 4 → (content rest : List ℕ) → length content ≤ 33554432
    → bytes ≡ to_be_bytes w32 (length content) ++ (content ++ rest) → ⊥
no_content_short bytes short content rest is e =
    omega (arith, short, ap length e, length-append (to_be_bytes w32 (length content)) (content ++ rest))

-- nor where the length is too great, or less than it says stands behind it
pub no_content_here : (bytes behind : List ℕ) (size : ℕ) → size < 2 ^ 32 → bytes ≡ to_be_bytes w32 size ++ behind
    → (size ≤ 33554432 → size ≤ length behind → ⊥)
    → (content rest : List ℕ) → length content ≤ 33554432 → bytes ≡ to_be_bytes w32 (length content) ++ (content ++ rest) → ⊥
no_content_here bytes behind size small h bad content rest is e =
    let one = one_four size (length content) behind (content ++ rest) small (omega (arith, is)) (sym h ∙ e) in
    bad (omega (arith, one.0, is)) (omega (arith, one.0, ap length one.1, length-append content rest))

-- the text of an object and what stands behind it
pub held_regrouped : (object : Object) (rest : List ℕ)
    → held_text object ++ rest ≡ kind_byte object.0 ∷ (to_be_bytes w32 (length object.1) ++ (object.1 ++ rest))
held_regrouped object rest = ap (λ (l : List ℕ). kind_byte object.0 ∷ l) (append_assoc (to_be_bytes w32 (length object.1)) object.1 rest)

-- a content within its limit
abbrev pub IsHeld : Object → Type 0
IsHeld object = length object.1 ≤ 33554432

-- the object in front is one
pub one_object : OneInFront IsHeld held_text
one_object o p a b ho hp e =
    let f = sym (held_regrouped o a) ∙ e ∙ held_regrouped p b in
    let kinds = one_kind o.0 p.0 (ap (λ (l : List ℕ). get_or l 0 0) f) in
    let contents = one_content o.1 p.1 a b ho hp (ap (λ (l : List ℕ). drop 1 l) f) in
    ((λ i. (kinds i, contents.0 i)), contents.1)
