use Rattle.std.proofs.Common.{◌≡◌, ℕ, ◌+◌, ◌++◌, ◌∷◌, [], List, map, take, sym, ap, ◌∙◌, append_assoc, arith}
use Rattle.std.proofs.lemmas.List.{take_more}
use Rattle.keyring.specs.Lines.{file_text, keyring_line_text}
use Rattle.rad_vectors.specs.Repositories.{accept_line_of}
use Rattle.rad_vectors.specs.Signers.{signer_of}
use Rattle.rad_vectors.specs.declared.delegate.Delegate.{Delegate}
use Rattle.rad_vectors.proofs.KeyringLines.{accept_more}
use Rattle.rad_vectors.proofs.keyring_lines.push_accepts.Goals as goal

pub delegates-preserved : goal.delegates-preserved
delegates-preserved c =
    let i = c.delegates.delegate-index in
    let d = c.delegate-item.result in
    let before : List ℕ = file_text (map accept_line_of (map signer_of (take i c.args.delegates.now))) in
    let more : take (i + 1) c.args.delegates.now ≡ take i c.args.delegates.now ++ d ∷ [] =
    take_more c.args.delegates.now i d (omega arith) ∙ ap (λ (x : Delegate). take i c.args.delegates.now ++ x ∷ []) (sym c.delegate-item.is) in
    c.in_ok-push_accept.ensures ∙ (ap (λ (xs : List ℕ). xs ++ (keyring_line_text (accept_line_of (signer_of d)) ++ 10 ∷ [])) c.delegates.invariant
    ∙ (append_assoc c.args.bytes.now.items before (keyring_line_text (accept_line_of (signer_of d)) ++ 10 ∷ [])
    ∙ ap (λ (xs : List ℕ). c.args.bytes.now.items ++ xs) (sym (accept_more (take i c.args.delegates.now) d)
    ∙ ap (λ (ds : List Delegate). file_text (map accept_line_of (map signer_of ds))) (sym more))))
