-- Names in front of a NUL, as a loop over the bytes finds them.
use Rattle.std.proofs.Common.{◌≡◌, ◌≢◌, ℕ, ◌+◌, ◌<◌, List, ◌∷◌, ◌++◌, length, get_or, sym, ap, ◌∙◌, arith, length-append, ◌⊎◌, inl, inr}
use Rattle.std.proofs.Math.Seq.{get_or-append_seam}
use Rattle.std.proofs.lemmas.Bool.{cases_lt, cases_eq}
use Rattle.std.proofs.lemmas.List.{get_or_append_left}
use Rattle.git_object.specs.Grammar.{IsName}

-- the first bytes, none of them NUL or `/`
abbrev pub IsClean : List ℕ → ℕ → Type 0
IsClean bytes n = (k : ℕ) → k < n → (get_or bytes k 0 ≢ 0) × (get_or bytes k 0 ≢ 47)

-- a name in front of a NUL begins at the front: its bytes, then NUL
name_byte : (bytes name rest : List ℕ) → IsName name → bytes ≡ name ++ 0 ∷ rest → IsClean bytes (length name)
name_byte bytes name rest is e k h =
    let same : get_or bytes k 0 ≡ get_or name k 0 = ap (λ (l : List ℕ). get_or l k 0) e ∙ get_or_append_left name (0 ∷ rest) 0 k h in
    let fine = is.allowed k 0 h in
    (λ z. fine.0 (sym same ∙ z), λ z. fine.1 (sym same ∙ z))

name_end : (bytes name rest : List ℕ) → bytes ≡ name ++ 0 ∷ rest → get_or bytes (length name) 0 ≡ 0
name_end bytes name rest e = ap (λ (l : List ℕ). get_or l (length name) 0) e ∙ get_or-append_seam name 0 rest 0

-- where the bytes are clean up to a NUL or a `/` at a place, a name ends there
pub name_size : (bytes name rest : List ℕ) (at : ℕ) → IsClean bytes at → IsName name → bytes ≡ name ++ 0 ∷ rest
    → (get_or bytes at 0 ≡ 0) ⊎ (get_or bytes at 0 ≡ 47) → length name ≡ at
name_size bytes name rest at clean is e stop =
    elim (cases_lt (length name) at) [
      | inl below ↦ absurd ((clean (length name) below).0 (name_end bytes name rest e))
      | inr high ↦
          elim (cases_eq (length name) at) [
            | inl same ↦ same
            | inr other ↦
                let fine = name_byte bytes name rest is e at (omega arith) in
                elim stop [ inl nul ↦ absurd (fine.0 nul) | inr slash ↦ absurd (fine.1 slash) ]
          ]
    ]

-- no name stands in front of a NUL where a `/` comes first
pub no_name_slash : (bytes : List ℕ) (at : ℕ) → IsClean bytes at → get_or bytes at 0 ≡ 47 → (name rest : List ℕ) → IsName name → bytes ≡ name ++ 0 ∷ rest → ⊥
no_name_slash bytes at clean slash name rest is e =
    let size = name_size bytes name rest at clean is e (inr slash) in
    let end : get_or bytes at 0 ≡ 0 = ap (λ n. get_or bytes n 0) (sym size) ∙ name_end bytes name rest e in
    omega (arith, end, slash)

-- nor where the NUL comes at once
pub no_name_empty : (bytes : List ℕ) → get_or bytes 0 0 ≡ 0 → (name rest : List ℕ) → IsName name → bytes ≡ name ++ 0 ∷ rest → ⊥
no_name_empty bytes nul name rest is e =
    let some : 0 < length name = is.some in
    (name_byte bytes name rest is e 0 some).0 nul

-- nor where no NUL comes
pub no_name_end : (bytes : List ℕ) → IsClean bytes (length bytes) → (name rest : List ℕ) → IsName name → bytes ≡ name ++ 0 ∷ rest → ⊥
no_name_end bytes clean name rest is e =
    let size : length bytes ≡ length name + (length rest + 1) = ap length e ∙ omega (arith, length-append name (0 ∷ rest)) in
    (clean (length name) (omega arith)).0 (name_end bytes name rest e)
