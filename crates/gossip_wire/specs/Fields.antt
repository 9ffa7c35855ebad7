-- The fields of messages, and the bytes that spell them.
use Rattle.std.specs.Prelude.{◌≡◌, ℕ, ◌≤◌, ◌<◌, ◌^◌, ◌⊎◌, nat_le, Bool, ◌&&◌, ◌||◌, List, ◌∷◌, ◌++◌, length, replicate}
use Rattle.std.specs.List.{AllByRecursion, AllPass, flat_map}
use Rattle.std.specs.Int.{to_be_bytes, w16, w64}
use Rattle.std.specs.Str.{IsUtf8}
use Rattle.hex.specs.Hex.{IsBytes}
use Rattle.rad_base.specs.Order.{IsRising, RisesBy, rid_cmp}
use Rattle.rad_base.specs.RemoteTexts.{IsPair, pair_text}
use Rattle.rad_base.specs.Sizes.{IsOid}
use Rattle.rad_base.specs.declared.names.Nid.{Nid}
use Rattle.rad_base.specs.declared.names.Oid.{Oid}
use Rattle.rad_base.specs.declared.names.Rid.{Rid}

-- a byte of an alias: from 21 on and not 7f, in hexadecimal digits
abbrev pub is_alias_byte : ℕ → Bool
is_alias_byte byte = (nat_le 33 byte && nat_le byte 126) || nat_le 128 byte

-- a byte of an address: from 21 to 7e, in hexadecimal digits
abbrev pub is_address_byte : ℕ → Bool
is_address_byte byte = nat_le 33 byte && nat_le byte 126

-- the name that a node goes by
pub record IsAlias (alias : List ℕ) : Type 0 where
  pub some : 1 ≤ length alias
  pub short : length alias ≤ 32
  pub visible : AllPass is_alias_byte alias
  pub text : IsUtf8 alias

-- an address of a node
pub record IsAddress (address : List ℕ) : Type 0 where
  pub some : 1 ≤ length address
  pub short : length address ≤ 255
  pub visible : AllPass is_address_byte address

-- a length byte, and so many bytes
abbrev pub sized : List ℕ → List ℕ
sized bytes = length bytes ∷ bytes

-- a count byte, and so many addresses
abbrev pub addresses_text : List (List ℕ) → List ℕ
addresses_text addresses = length addresses ∷ flat_map sized addresses

-- addresses of a node, up to 16
pub record AreAddresses (addresses : List (List ℕ)) : Type 0 where
  pub few : length addresses ≤ 16
  pub each : AllByRecursion IsAddress addresses

-- what a node says of itself, each field within its limits
pub record IsAbout (features time : ℕ) (alias : List ℕ) (addresses : List (List ℕ)) : Type 0 where
  pub offers : features < 2 ^ 64
  pub when : time < 2 ^ 64
  pub name : IsAlias alias
  pub places : AreAddresses addresses

-- the features, the time, the alias, the addresses
abbrev pub about_text : ℕ → ℕ → List ℕ → List (List ℕ) → List ℕ
about_text features time alias addresses =
    to_be_bytes w64 features ++ (to_be_bytes w64 time ++ (sized alias ++ addresses_text addresses))

-- a repository's name of 20 bytes
abbrev pub IsRid : Rid → Type 0
IsRid rid = IsOid rid.0

-- the name of a repository
abbrev pub rid_text : Rid → List ℕ
rid_text rid = rid.0.0

-- each name is below the next
abbrev pub AreRising : List Rid → Type 0
AreRising rids = RisesBy (λ rid. rid) rid_cmp rids

-- which repositories a node has, strictly rising
pub record IsInventory (rids : List Rid) (time : ℕ) : Type 0 where
  pub few : length rids ≤ 2973
  pub each : AllByRecursion IsRid rids
  pub rising : AreRising rids
  pub when : time < 2 ^ 64

-- the count of repositories, the repositories, the time
abbrev pub inventory_text : List Rid → ℕ → List ℕ
inventory_text rids time =
    to_be_bytes w16 (length rids) ++ (flat_map rid_text rids ++ to_be_bytes w64 time)

-- which signed refs of a repository a node has, the keys strictly rising
pub record AreRefs (name : Rid) (remotes : List (Nid × Oid)) (time : ℕ) : Type 0 where
  pub rid : IsRid name
  pub few : length remotes ≤ 1024
  pub each : AllByRecursion IsPair remotes
  pub rising : IsRising remotes
  pub when : time < 2 ^ 64

-- the repository, the count of remotes, the remotes, the time
abbrev pub refs_text : Rid → List (Nid × Oid) → ℕ → List ℕ
refs_text rid remotes time =
    rid.0.0 ++ (to_be_bytes w16 (length remotes) ++ (flat_map pair_text remotes ++ to_be_bytes w64 time))

-- how many bytes a filter may have
abbrev pub IsFilterSize : ℕ → Type 0
IsFilterSize n = (n ≡ 1024) ⊎ (n ≡ 4096) ⊎ (n ≡ 16384)

-- what a node wants to be told of
pub record IsSubscription (filter : List ℕ) (from to : ℕ) : Type 0 where
  pub size : IsFilterSize (length filter)
  pub bytes : IsBytes filter
  pub first : from < 2 ^ 64
  pub last : to < 2 ^ 64

-- the length of the filter, the filter, the first time, the last time
abbrev pub subscription_text : List ℕ → ℕ → ℕ → List ℕ
subscription_text filter from to =
    to_be_bytes w16 (length filter) ++ (filter ++ (to_be_bytes w64 from ++ to_be_bytes w64 to))

-- a count in two bytes, and so many zero bytes
abbrev pub zeros_text : ℕ → List ℕ
zeros_text n = to_be_bytes w16 n ++ replicate n 0
