-- Remotes, and the bytes that spell them one behind the other.
use Rattle.std.specs.Prelude.{◌≡◌, ℕ, List, ◌++◌, length}
use Rattle.std.specs.List.{AllByRecursion, flat_map}
use Rattle.rad_base.specs.declared.names.Nid.{Nid}
use Rattle.rad_base.specs.declared.names.Oid.{Oid}
use Rattle.rad_base.specs.Order.{IsRising}
use Rattle.rad_base.specs.Sizes.{IsNid, IsOid}

-- a remote: its key and the name of its commit
abbrev pub pair_text : Nid × Oid → List ℕ
pair_text pair = pair.0.0 ++ pair.1.0

-- a remote of 32 and 20 bytes
abbrev pub IsPair : Nid × Oid → Type 0
IsPair pair = IsNid pair.0 × IsOid pair.1

-- so many remotes, their keys strictly rising, whose texts are the bytes
pub record AreRemotes (bytes : List ℕ) (n : ℕ) (remotes : List (Nid × Oid)) : Type 0 where
  pub each : AllByRecursion IsPair remotes
  pub rising : IsRising remotes
  pub count : length remotes ≡ n
  pub text : bytes ≡ flat_map pair_text remotes
