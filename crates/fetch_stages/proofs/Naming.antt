-- The bytes of a name, taken one by one.
use Rattle.std.proofs.Common.{◌≡◌, ◌≤◌, ◌<◌, ◌+◌, ℕ, List, [], ◌∷◌, ◌++◌, Option, length, take, drop, refl, sym, ap, ◌∙◌, subst, arith}
use Rattle.std.specs.Prelude.{slice_index_or, slice_set}
use Rattle.std.proofs.lemmas.List.{length-set, get_or-set_other, get_or-set_same, take_all}
use Rattle.std.proofs.lemmas.Grind.{take-set_at}
use Rattle.rad_base.specs.Sizes.{HasBytes}
use Rattle.fetch_stages.specs.Pieces.{Uses}
use Rattle.fetch_stages.proofs.Windows.{uses_front}

first_alone : (waiting : List ℕ) (b : ℕ) → 0 < length waiting → b ≡ slice_index_or waiting 0 0 → take 1 waiting ≡ b ∷ []
first_alone [] b some e = absurd (omega (arith, some))
first_alone (x ∷ waiting) b some e = ap (λ (y : ℕ). y ∷ []) (sym e)

-- a byte more is read
pub name_more : (l l' : Option (List ℕ)) (before name waiting : List ℕ) (n b : ℕ) → n < length name → 0 < length waiting
    → b ≡ slice_index_or waiting 0 0 → Uses l l' before (take n name) waiting
    → Uses l l' before (take (n + 1) (slice_set name n b)) (drop 1 waiting)
name_more l l' before name waiting n b below some e u =
    let text : take n name ++ take 1 waiting ≡ take (n + 1) (slice_set name n b) =
    ap (λ (k : List ℕ). take n name ++ k) (first_alone waiting b some e) ∙ sym (take-set_at name n (n + 1) b refl below) in
    subst (λ (k : List ℕ). Uses l l' before k (drop 1 waiting)) text (uses_front l l' before (take n name) waiting 1 u)

-- the name is as long as before
pub name_set : (name : List ℕ) (n b : ℕ) → n < 20 → b < 256 → HasBytes 20 name → HasBytes 20 (slice_set name n b)
name_set name n b below fits h = record {
  size = length-set name n b ∙ h.size;
  fits = λ i. grind (arith, get_or-set_same, get_or-set_other, h.fits i, h.size, below, fits);
}

-- all of it is read
pub name_read : (l l' : Option (List ℕ)) (before name waiting : List ℕ) (n : ℕ) → n ≤ 20 → 20 ≤ n → HasBytes 20 name
    → Uses l l' before (take n name) waiting → Uses l l' before name waiting
name_read l l' before name waiting n few many h u =
    let size = h.size in
    subst (λ (k : List ℕ). Uses l l' before k waiting) (take_all n name (omega (arith, size, many))) u
