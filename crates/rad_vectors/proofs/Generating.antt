-- What is made of the repository's parts.
use Rattle.std.proofs.Common.{◌≡◌, ◌∷◌, [], ℕ, List, subst, ap, ◌∙◌}
use Rattle.keyring.specs.Lines.{file_text}
use Rattle.fetch_wire.specs.Sections.{Object}
use Rattle.rad_vectors.specs.Chains.{chain_objects, tip_of}
use Rattle.rad_vectors.specs.Generated.{IsMade, generated, generated_signer, generated_with, master_line}
use Rattle.rad_vectors.specs.Repositories.{IsBundleOf, accept_line_of}

pub made_of : (n : ℕ) (refs bundle keyring : List ℕ) (tips : List Object) → refs ≡ master_line (tip_of n) → tips ≡ chain_objects n
    → IsBundleOf (generated_with refs tips) bundle → keyring ≡ file_text (accept_line_of (generated_signer refs) ∷ [])
    → IsMade (generated n) (record { keyring = keyring; bundle = bundle })
made_of n refs bundle keyring tips er et is lines = record {
  bundle = subst (λ (r : List ℕ). IsBundleOf (generated_with r (chain_objects n)) bundle) er (subst (λ (ts : List Object). IsBundleOf (generated_with refs ts) bundle) et is);
  keyring = lines ∙ ap (λ (r : List ℕ). file_text (accept_line_of (generated_signer r) ∷ [])) er;
}
