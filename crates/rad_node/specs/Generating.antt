-- The import of a repository that is made by rule.
use Rattle.std.specs.Prelude.{ℕ, List, Option, Some}
use Rattle.std.specs.Io.KnownBytes.{Consumes, IsAtEnd}
use Rattle.rad_vectors.specs.Generated.{generated}
use Rattle.rad_vectors.specs.Repositories.{IsBundleOf}
use Rattle.rad_node.specs.Imports.{Imported}
use Rattle.rad_node.specs.Statuses.{generated_keyring}
use Rattle.rad_node.specs.declared.status.Status.{Status}

-- the bundle of the repository of so many commits was imported under its keyring
pub record ImportsGenerated (commits : ℕ) (store : Option (List ℕ)) (images : List ℕ → Type 0)
    (leaves : (List ℕ → Type 0) → Type 0) (gives : List ℕ → Type 0) (result : Status) : Type 0 where
  pub bundle : List ℕ
  pub is : IsBundleOf (generated commits) bundle
  pub left : Option (List ℕ)
  pub imported : Imported (Some commits) (record { keyring = Some (generated_keyring commits); store = store })
      (Consumes (Some bundle) left) (IsAtEnd left) images leaves gives result
