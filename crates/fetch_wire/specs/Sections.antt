-- Sections: a head, objects and the end word, and the bytes that spell them.
use Rattle.std.specs.Prelude.{◌≡◌, ℕ, ◌+◌, ◌<◌, ◌≤◌, Bool, true, false, List, [], ◌∷◌, ◌++◌, ◌⊎◌, length, map}
use Rattle.std.specs.List.{AllByRecursion, flat_map}
use Rattle.std.specs.Int.{to_be_bytes, w16, w32}
use Rattle.hex.specs.Hex.{IsBytes}
use Rattle.rad_base.specs.Order.{IsRising}
use Rattle.rad_base.specs.RemoteTexts.{IsPair, pair_text}
use Rattle.rad_base.specs.Sizes.{IsNid, IsOid}
use Rattle.rad_base.specs.declared.names.Nid.{Nid}
use Rattle.rad_base.specs.declared.names.Oid.{Oid}
use Rattle.rad_base.specs.declared.offer.Offer.{Offer}
use Rattle.git_object.specs.declared.kind.Kind.{Kind}
use Rattle.git_object.specs.declared.kind.Kind.TheVariants as kinds
use Rattle.fetch_wire.specs.declared.part.Part.{Part}
use Rattle.fetch_wire.specs.declared.part.Part.TheVariants as part
use Rattle.fetch_wire.specs.declared.part.Which.{Which}
use Rattle.fetch_wire.specs.declared.part.Which.TheVariants as which

-- the byte that stands for a kind
abbrev pub kind_byte : Kind → ℕ
kind_byte kinds.Commit = 1
kind_byte kinds.Tree = 2
kind_byte kinds.Blob = 3
kind_byte kinds.Tag = 4

-- the head of an identity section: the letter I, the identity commit, the count of remotes, the remotes
abbrev pub offer_text : Offer → List ℕ
offer_text offer = 73 ∷ (offer.id.0 ++ (to_be_bytes w16 (length offer.remotes) ++ flat_map pair_text offer.remotes))

-- an object: the letter O, the byte of its kind, its length in four bytes, its content
abbrev pub object_text : Kind → List ℕ → List ℕ
object_text kind content = 79 ∷ kind_byte kind ∷ (to_be_bytes w32 (length content) ++ content)

-- the end word: `end` and a line feed
abbrev pub end_word : List ℕ
end_word = 101 ∷ 110 ∷ 100 ∷ 10 ∷ []

-- the bytes of a part
abbrev pub part_text : Part → List ℕ
part_text (part.Offer offer) = offer_text offer
part_text part.SigsHead = 83 ∷ []
part_text part.TipsHead = 68 ∷ []
part_text (part.Object kind content) = object_text kind content
part_text part.End = end_word
part_text (part.Refused code) = 82 ∷ code ∷ []

-- an offer within its limits
pub record IsOffer (offer : Offer) : Type 0 where
  pub id : IsOid offer.id
  pub few : length offer.remotes ≤ 1024
  pub each : AllByRecursion IsPair offer.remotes
  pub rising : IsRising offer.remotes

-- a content within its limit of 32 MiB
abbrev pub IsContent : List ℕ → Type 0
IsContent content = IsBytes content × (length content ≤ 33554432)

-- the code of a refusal
abbrev pub IsCode : ℕ → Type 0
IsCode code = (code ≡ 1) ⊎ (code ≡ 2)

-- a part within its limits
abbrev pub IsWithin : Part → Type 0
IsWithin (part.Offer offer) = length offer.remotes ≤ 1024
IsWithin part.SigsHead = Unit {0}
IsWithin part.TipsHead = Unit {0}
IsWithin (part.Object kind content) = length content ≤ 33554432
IsWithin part.End = Unit {0}
IsWithin (part.Refused code) = IsCode code

-- the head of a section of a kind
abbrev pub IsHead : Which → Part → Type 0
IsHead which.Identity (part.Offer offer) = IsOffer offer
IsHead which.Sigs part.SigsHead = Unit {0}
IsHead which.Tips part.TipsHead = Unit {0}
IsHead w p = ⊥

-- an object: a kind and a content
abbrev pub Object : Type 0
Object = Kind × List ℕ

-- an object within its limit
abbrev pub IsObject : Object → Type 0
IsObject object = IsContent object.1

-- it as a part
abbrev pub as_part : Object → Part
as_part object = part.Object object.0 object.1

-- the parts of a section, in order
abbrev pub parts_of : Part → List Object → List Part
parts_of head objects = head ∷ (map as_part objects ++ part.End ∷ [])

-- the bytes are a section of this kind with this head and these objects, and a rest
pub record Sections (bytes : List ℕ) (kind : Which) (head : Part) (objects : List Object) (rest : List ℕ) : Type 0 where
  pub is_head : IsHead kind head
  pub each : AllByRecursion IsObject objects
  pub text : bytes ≡ flat_map part_text (parts_of head objects) ++ rest
