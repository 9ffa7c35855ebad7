-- A prefix that was copied from what stands from a place on.
use Rattle.std.specs.Prelude.{◌≡◌, ℕ, ◌+◌, List, [], ◌++◌, take, drop}
use Rattle.std.proofs.Common.{sym, ◌∙◌, ap}
use Rattle.std.proofs.lemmas.List.{take-append-drop, drop-drop}
use Rattle.std.proofs.Math.Seq.{drop-nil}

-- what stood there is the prefix that was copied and what stands behind it
pub front_and_rest : (place n : ℕ) (bytes into : List ℕ) → take n into ≡ take n (drop place bytes)
    → drop place bytes ≡ take n into ++ drop (place + n) bytes
front_and_rest place n bytes into front =
    sym (take-append-drop n (drop place bytes))
    ∙ ap (λ (xs : List ℕ). xs ++ drop n (drop place bytes)) (sym front)
    ∙ ap (λ (xs : List ℕ). take n into ++ xs) (drop-drop n place bytes)

-- where nothing stands from a place on, nothing stands behind it
pub nothing_behind : (place n : ℕ) (bytes : List ℕ)
    → drop place bytes ≡ [] → drop (place + n) bytes ≡ []
nothing_behind place n bytes none = sym (drop-drop n place bytes) ∙ ap (drop n) none ∙ drop-nil n
