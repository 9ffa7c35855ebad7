-- Bytes of a buffer that are still to be read.
use Rattle.std.proofs.Common.{◌≡◌, ℕ, ◌+◌, ◌-◌, ◌≤◌, List, length, take, drop, sym, ap, ◌∙◌, arith, slice_range}
use Rattle.std.proofs.lemmas.List.{drop-drop, drop-take, length-take}

-- so many of them were read
pub passed : (buffer : List ℕ) (start end count : ℕ) → count ≤ length (slice_range buffer start end) → slice_range buffer (start + count) end ≡ drop count (slice_range buffer start end)
passed buffer start end count fits =
    let all : List ℕ = drop start buffer in
    let rest : ℕ = end - (start + count) in
    let few : count ≤ end - start = omega (arith, fits, length-take (end - start) all) in
    let size : count + rest ≡ end - start = omega (arith, few) in
    ap (λ (l : List ℕ). take rest l) (sym (drop-drop count start buffer))
    ∙ (sym (drop-take count rest all) ∙ ap (λ (m : ℕ). drop count (take m all)) size)
