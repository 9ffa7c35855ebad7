-- How many bytes a name, a key and a signature have, and bytes up to the first of one value.
use Rattle.std.specs.Prelude.{◌≡◌, ◌≢◌, ℕ, List, ◌∷◌, ◌++◌, length}
use Rattle.std.specs.List.{All}
use Rattle.hex.specs.Hex.{IsBytes}
use Rattle.rad_base.specs.declared.names.Oid.{Oid}
use Rattle.rad_base.specs.declared.names.Nid.{Nid}
use Rattle.rad_base.specs.declared.names.Sig.{Sig}

-- n numbers, each below 256
pub record HasBytes (n : ℕ) (bytes : List ℕ) : Type 0 where
  pub size : length bytes ≡ n
  pub fits : IsBytes bytes

-- the 20 bytes of an object's name
abbrev pub IsOid : Oid → Type 0
IsOid oid = HasBytes 20 oid.0

-- the 32 bytes of a node's key
abbrev pub IsNid : Nid → Type 0
IsNid nid = HasBytes 32 nid.0

-- the 64 bytes of a signature
abbrev pub IsSig : Sig → Type 0
IsSig sig = HasBytes 64 sig.0

-- none of the bytes is this one
abbrev pub Lacks : ℕ → List ℕ → Type 0
Lacks stop bytes = All (λ byte. byte ≢ stop) bytes

-- the first byte of this value stands between these two parts of the bytes
abbrev pub SplitsAt : ℕ → List ℕ → List ℕ → List ℕ → Type 0
SplitsAt stop bytes before behind = Lacks stop before × (bytes ≡ before ++ stop ∷ behind)
