-- Lines that are added one behind the other.
use Rattle.std.proofs.Common.{◌≡◌, ℕ, ◌+◌, ◌<◌, ◌≤◌, List, [], ◌∷◌, ◌++◌, length, take, get_or, sym, ap, subst, ◌∙◌}
use Rattle.std.specs.Prelude.{OnOk, Result, Ok, Err}
use Rattle.std.specs.List.{AllZip}
use Rattle.std.proofs.lemmas.List.{flat_map_more, take_all, take_more}
use Rattle.store_reports.specs.Parts.{AddsEach, AddsOne}

-- one more at the end
all_zip_push : {A B : Type 0} (R : A → B → Type 0) (xs : List A) (ys : List B) (x : A) (y : B) → AllZip R xs ys → R x y → AllZip R (xs ++ x ∷ []) (ys ++ y ∷ [])
all_zip_push R [] [] x y h r = (r, tt)
all_zip_push R [] (b ∷ ys) x y h r = absurd h
all_zip_push R (a ∷ xs) [] x y h r = absurd h
all_zip_push R (a ∷ xs) (b ∷ ys) x y h r = (h.0, all_zip_push R xs ys x y h.1 r)

-- one more was added
pub adds_push : {A B : Type 0} (R : A → B → Type 0) (write : B → List ℕ) (items : List A) (item : A) (old mid new : List ℕ) → AddsEach R write items old mid → AddsOne R write item mid new
    → AddsEach R write (items ++ item ∷ []) old new
adds_push R write items item old mid new h one = record {
  some = h.some ++ one.one ∷ [];
  each = all_zip_push R items h.some item one.one h.each one.is;
  written = one.written ∙ ap (λ (t : List ℕ). t ++ write one.one) h.written ∙ flat_map_more write old h.some one.one;
}

-- one turn of a loop
pub adds_turn : {A B : Type 0} (R : A → B → Type 0) (write : B → List ℕ) (items : List A) (i : ℕ) (d : A) (old mid new : List ℕ) → i < length items → AddsEach R write (take i items) old mid
    → AddsOne R write (get_or items i d) mid new → AddsEach R write (take (i + 1) items) old new
adds_turn {A = A} R write items i d old mid new l h one =
    subst (λ (xs : List A). AddsEach R write xs old new) (sym (take_more items i d l)) (adds_push R write (take i items) (get_or items i d) old mid new h one)

-- the last turn
pub adds_all : {A B : Type 0} (R : A → B → Type 0) (write : B → List ℕ) (items all : List A) (i : ℕ) (old new : List ℕ) → items ≡ all → length items ≤ i → AddsEach R write (take i items) old new
    → AddsEach R write all old new
adds_all {A = A} R write items all i old new e l h =
    subst (λ (xs : List A). AddsEach R write xs old new) (take_all i items l ∙ e) h

-- a text that began empty
pub from_empty : (text old made : List ℕ) → old ≡ [] → text ≡ old ++ made → text ≡ made
from_empty text old made none e = e ∙ ap (λ (t : List ℕ). t ++ made) none

-- what is so at Ok
pub on_ok : {T E : Type 0} (r : Result T E) (P Q : Type 0) → OnOk r P → (P → Q) → OnOk r Q
on_ok (Ok x) P Q h f = f h
on_ok (Err e) P Q h f = tt
