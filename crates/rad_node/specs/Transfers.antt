-- What was taken from a source, and what a sink was given.
use Rattle.std.specs.Prelude.{◌≡◌, ℕ, List, ◌++◌, length, Option}
use Rattle.std.specs.Io.KnownBytes.{Appends, Consumes}
use Rattle.rad_node.specs.declared.status.Status.{Status}
use Rattle.rad_node.specs.declared.status.Status.TheVariants.{WriteFault}

-- n bytes were taken from the front of what is left, and stand behind those from before
pub record Took (old new : Option (List ℕ)) (before after : List ℕ) (n : ℕ) : Type 0 where
  pub bytes : List ℕ
  pub size : length bytes ≡ n
  pub consumed : Consumes old new bytes
  pub added : after ≡ before ++ bytes

-- a prefix of these bytes was given
abbrev pub AppendsFront : Option (List ℕ) → Option (List ℕ) → List ℕ → Type 0
AppendsFront old new bytes = (front : List ℕ) × (rest : List ℕ) × (bytes ≡ front ++ rest) × Appends old new front

-- a run that ends so gave a text: all of it, or a prefix where the sink failed
abbrev pub GivesBy : Status → Option (List ℕ) → Option (List ℕ) → List ℕ → Type 0
GivesBy WriteFault old new text = AppendsFront old new text
GivesBy other old new text = Appends old new text
