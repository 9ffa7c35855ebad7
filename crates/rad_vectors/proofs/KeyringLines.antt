-- One line more of a keyring.
use Rattle.std.proofs.Common.{◌≡◌, ℕ, List, [], ◌∷◌, ◌++◌, map, refl, sym, ap, ◌∙◌, append_assoc}
use Rattle.std.proofs.lemmas.List.{map-append}
use Rattle.keyring.specs.Lines.{KeyringLine, file_text, keyring_line_text}
use Rattle.rad_vectors.specs.Repositories.{Signer, accept_line_of}
use Rattle.rad_vectors.specs.Signers.{signer_of}
use Rattle.rad_vectors.specs.declared.delegate.Delegate.{Delegate}

line_more : (lines : List KeyringLine) (line : KeyringLine) → file_text (lines ++ line ∷ []) ≡ file_text lines ++ (keyring_line_text line ++ 10 ∷ [])
line_more [] line = refl
line_more (first ∷ lines) line =
    ap (λ (rest : List ℕ). keyring_line_text first ++ (10 ∷ rest)) (line_more lines line)
    ∙ sym (append_assoc (keyring_line_text first) (10 ∷ file_text lines) (keyring_line_text line ++ 10 ∷ []))

pub accept_more : (ds : List Delegate) (d : Delegate) → file_text (map accept_line_of (map signer_of (ds ++ d ∷ [])))
    ≡ file_text (map accept_line_of (map signer_of ds)) ++ (keyring_line_text (accept_line_of (signer_of d)) ++ 10 ∷ [])
accept_more ds d =
    ap (λ (signers : List Signer). file_text (map accept_line_of signers)) (map-append signer_of ds (d ∷ []))
    ∙ (ap file_text (map-append accept_line_of (map signer_of ds) (signer_of d ∷ []))
    ∙ line_more (map accept_line_of (map signer_of ds)) (accept_line_of (signer_of d)))
