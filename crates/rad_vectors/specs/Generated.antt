-- The repository of a number of commits.
use Rattle.std.specs.Prelude.{◌≡◌, ℕ, List, [], ◌∷◌, Option, None, Some, codes, replicate}
use Rattle.rad_base.specs.declared.names.Oid.{Oid}
use Rattle.fetch_wire.specs.Sections.{Object}
use Rattle.rad_vectors.specs.Chains.{chain_objects, tip_of}
use Rattle.rad_vectors.specs.Repositories.{IsBundleOf, Repository, Signer, keyring_text, ref_line}
use Rattle.rad_vectors.specs.declared.made.Made.{Made}

-- the bundle and the keyring of this repository
pub record IsMade (repository : Repository) (made : Made) : Type 0 where
  pub bundle : IsBundleOf repository made.bundle
  pub keyring : made.keyring ≡ keyring_text repository.names repository.signers

-- the document, whose one delegate has 32 bytes 01 as its key
abbrev pub generated_document : List ℕ
generated_document = codes "{\"delegates\":[\"did:key:fed010101010101010101010101010101010101010101010101010101010101010101\"],\"payload\":{\"xyz.radicle.project\":{\"defaultBranch\":\"master\",\"description\":\"\",\"name\":\"gen\"}},\"threshold\":1}"

-- the line of the branch `master`, if it has a commit
abbrev pub master_line : Option Oid → List ℕ
master_line None = []
master_line (Some tip) = ref_line tip (codes "refs/heads/master")

-- the delegate, with this text of its refs
abbrev pub generated_signer : List ℕ → Signer
generated_signer refs = record { key = record { 0 = replicate 32 1 }; refs = refs }

-- the repository of these refs, and of what they reach
abbrev pub generated_with : List ℕ → List Object → Repository
generated_with refs tips = record { document = generated_document; names = []; signers = generated_signer refs ∷ []; tips = tips }

-- the repository, whose branch is at the last of so many commits
abbrev pub generated : ℕ → Repository
generated n = generated_with (master_line (tip_of n)) (chain_objects n)
