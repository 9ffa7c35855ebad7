-- Bytes that are taken from a source in pieces.
use Rattle.std.specs.Prelude.{◌≡◌, ◌≤◌, ◌<◌, ℕ, List, ◌++◌, length, Option}
use Rattle.std.specs.Io.KnownBytes.{Consumes}

-- a window of a buffer that is not empty
pub record IsWindow (from upto : ℕ) (piece : List ℕ) : Type 0 where
  pub some : 0 < length piece
  pub order : from ≤ upto
  pub inside : upto ≤ length piece

-- bytes were taken from a source, and wait behind those that waited
pub record Fills (old new : Option (List ℕ)) (before after : List ℕ) : Type 0 where
  pub bytes : List ℕ
  pub consumed : Consumes old new bytes
  pub waits : after ≡ before ++ bytes

-- bytes were taken from a source, and of them and those that waited these are used
pub record Uses (old new : Option (List ℕ)) (before used after : List ℕ) : Type 0 where
  pub taken : List ℕ
  pub consumed : Consumes old new taken
  pub text : before ++ taken ≡ used ++ after
