-- Requests, and the bytes that spell them.
use Rattle.std.specs.Prelude.{◌≡◌, ℕ, ◌≤◌, List, [], ◌∷◌, ◌++◌, length}
use Rattle.std.specs.List.{AllByRecursion, flat_map}
use Rattle.std.specs.Int.{to_be_bytes, w16}
use Rattle.rad_base.specs.Order.{RisesBy, nid_cmp, oid_cmp}
use Rattle.rad_base.specs.Sizes.{IsNid, IsOid}
use Rattle.rad_base.specs.declared.names.Nid.{Nid}
use Rattle.rad_base.specs.declared.names.Oid.{Oid}
use Rattle.rad_base.specs.declared.names.Rid.{Rid}
use Rattle.fetch_wire.specs.declared.request.Ask.{Ask}
use Rattle.fetch_wire.specs.declared.request.Ask.TheVariants as asks
use Rattle.fetch_wire.specs.declared.request.Request.{Request}
use Rattle.fetch_wire.specs.declared.request.Request.TheVariants as request

-- the first byte of a request with a repository
abbrev pub ask_byte : Ask → ℕ
ask_byte asks.Begin = 1
ask_byte asks.Sigs = 2
ask_byte asks.Tips = 3

-- the bytes of a name and of a key
abbrev pub oid_text : Oid → List ℕ
oid_text oid = oid.0

abbrev pub nid_text : Nid → List ℕ
nid_text nid = nid.0

-- a count in two bytes, and this many items
abbrev pub counted_text : {X : Type 0} → (X → List ℕ) → ℕ → List X → List ℕ
counted_text text count items = to_be_bytes w16 count ++ flat_map text items

-- the first byte, and the repository
abbrev pub repository_text : Ask → Rid → List ℕ
repository_text ask rid = ask_byte ask ∷ rid.0.0

-- they, and the haves
abbrev pub haves_text : Ask → Rid → List Oid → List ℕ
haves_text ask rid haves = repository_text ask rid ++ counted_text oid_text (length haves) haves

-- they, and the nodes
abbrev pub nodes_text : Ask → Rid → List Oid → List Nid → List ℕ
nodes_text ask rid haves nodes = haves_text ask rid haves ++ counted_text nid_text (length nodes) nodes

-- the bytes of a request
abbrev pub request_text : Request → List ℕ
request_text (request.Begin rid haves) = haves_text asks.Begin rid haves
request_text (request.Sigs rid haves nodes) = nodes_text asks.Sigs rid haves nodes
request_text (request.Tips rid haves nodes) = nodes_text asks.Tips rid haves nodes
request_text request.Done = 4 ∷ []

-- up to 2,048 names, strictly rising
pub record AreHaves (haves : List Oid) : Type 0 where
  pub few : length haves ≤ 2048
  pub each : AllByRecursion IsOid haves
  pub rising : RisesBy (λ (oid : Oid). oid) oid_cmp haves

-- up to 1,024 keys, strictly rising
pub record AreNodes (nodes : List Nid) : Type 0 where
  pub few : length nodes ≤ 1024
  pub each : AllByRecursion IsNid nodes
  pub rising : RisesBy (λ (nid : Nid). nid) nid_cmp nodes

-- a request within its limits
abbrev pub IsRequest : Request → Type 0
IsRequest (request.Begin rid haves) = IsOid rid.0 × AreHaves haves
IsRequest (request.Sigs rid haves nodes) = IsOid rid.0 × AreHaves haves × AreNodes nodes
IsRequest (request.Tips rid haves nodes) = IsOid rid.0 × AreHaves haves × AreNodes nodes
IsRequest request.Done = Unit {0}

-- no more haves and nodes than it may have
abbrev pub IsWithinLimits : Request → Type 0
IsWithinLimits (request.Begin rid haves) = length haves ≤ 2048
IsWithinLimits (request.Sigs rid haves nodes) = (length haves ≤ 2048) × (length nodes ≤ 1024)
IsWithinLimits (request.Tips rid haves nodes) = (length haves ≤ 2048) × (length nodes ≤ 1024)
IsWithinLimits request.Done = Unit {0}

-- the bytes are these requests, one behind the other, and a rest
pub record Requests (bytes : List ℕ) (requests : List Request) (rest : List ℕ) : Type 0 where
  pub each : AllByRecursion IsRequest requests
  pub text : bytes ≡ flat_map request_text requests ++ rest
