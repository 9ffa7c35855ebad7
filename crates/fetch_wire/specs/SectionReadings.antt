-- What the bytes of a section are read as.
use Rattle.std.specs.Prelude.{◌≡◌, ℕ, ◌+◌, ◌<◌, ◌≤◌, Bool, true, false, List, [], ◌∷◌, ◌++◌, ◌⊎◌, length, Option}
use Rattle.std.specs.List.{AllByRecursion, flat_map}
use Rattle.std.specs.Int.{to_be_bytes, w16, w32}
use Rattle.rad_base.specs.Order.{IsRising}
use Rattle.rad_base.specs.Sizes.{IsOid}
use Rattle.rad_base.specs.declared.names.Nid.{Nid}
use Rattle.rad_base.specs.declared.names.Oid.{Oid}
use Rattle.unit_reader.specs.Units.{Breaks, FrontsBegin, Place, Reading, At, Broken, reading}
use Rattle.fetch_wire.specs.Judging.{first_unit, is_over, judge}
use Rattle.fetch_wire.specs.Sections.{IsCode, IsContent, IsHead, Object, Sections, kind_byte, part_text, parts_of}
use Rattle.rad_base.specs.RemoteTexts.{IsPair, pair_text}
use Rattle.fetch_wire.specs.declared.fault.Break.{Break}
use Rattle.fetch_wire.specs.declared.part.Part.{Part}
use Rattle.fetch_wire.specs.declared.part.Part.TheVariants as part
use Rattle.fetch_wire.specs.declared.part.Which.{Which}
use Rattle.fetch_wire.specs.declared.part.Which.TheVariants as which
use Rattle.fetch_wire.specs.declared.units.Next.{Next}
use Rattle.fetch_wire.specs.declared.units.Next.TheVariants as next
use Rattle.fetch_wire.specs.declared.units.SectionUnits.{SectionUnits}

-- how the bytes of a section of a kind are read
abbrev pub read_of : Which → List ℕ → Reading SectionUnits Part Break
read_of which bytes = reading is_over judge (first_unit which) [] bytes

-- the bytes are read as these parts up to the end, and this stands behind it
abbrev pub ReadsAs : Which → List ℕ → List Part → List ℕ → Type 0
ReadsAs which bytes parts rest = (units : SectionUnits) × (is_over units ≡ true) × (read_of which bytes ≡ record { items = parts; place = At units [] rest })

-- they are a section of the kind, or a refusal in its place, and a rest
abbrev pub EndsAs : Which → List ℕ → List Part → List ℕ → Type 0
EndsAs w bytes parts rest =
    ((head : Part) × (objects : List Object) × Sections bytes w head objects rest × (parts ≡ parts_of head objects))
    ⊎ ((code : ℕ) × IsCode code × (bytes ≡ 82 ∷ code ∷ rest) × (parts ≡ part.Refused code ∷ []))

-- an object among the parts
abbrev pub IsObjectPart : Part → Type 0
IsObjectPart (part.Object kind content) = IsContent content
IsObjectPart p = ⊥

-- these are objects, up to the end word or not so far
abbrev pub AreObjects : List Part → Bool → Type 0
AreObjects [] over = over ≡ false
AreObjects (p ∷ parts) over = (IsObjectPart p × AreObjects parts over) ⊎ ((p ≡ part.End) × (parts ≡ []) × (over ≡ true))

-- a refusal
abbrev pub IsRefusal : Part → Type 0
IsRefusal (part.Refused code) = IsCode code
IsRefusal p = ⊥

-- these are the parts of a section of a kind, up to its end or not so far; or a refusal in its place
abbrev pub AreParts : Which → List Part → Bool → Type 0
AreParts w [] over = over ≡ false
AreParts w (p ∷ parts) over = (IsHead w p × AreObjects parts over) ⊎ (IsRefusal p × (parts ≡ []) × (over ≡ true))

-- what stands of a part before the unit that stands next
abbrev pub begun_of : Next → Oid → List (Nid × Oid) → List ℕ
begun_of (next.Head w) id remotes = []
begun_of (next.Remote left) id remotes = 73 ∷ (id.0 ++ (to_be_bytes w16 (length remotes + left) ++ flat_map pair_text remotes))
begun_of next.Part id remotes = []
begun_of (next.Content kind count) id remotes = 79 ∷ kind_byte kind ∷ to_be_bytes w32 count
begun_of next.Nothing id remotes = []

abbrev pub begun_text : SectionUnits → List ℕ
begun_text units = begun_of units.next units.id units.remotes

-- what bytes say that are read so: they are the parts, and behind the end the rest; or what stands of a part so far;
-- or a broken unit
abbrev pub Tells : Which → List ℕ → List Part → Place SectionUnits Break → Type 0
Tells w bytes parts (At units held rest) =
    AreParts w parts (is_over units) × (bytes ≡ flat_map part_text parts ++ (begun_text units ++ (held ++ rest)))
    × ((rest ≡ []) ⊎ ((is_over units ≡ true) × (held ≡ [])))
Tells w bytes parts (Broken broken) =
    AreParts w parts false × ((units : SectionUnits) × (unit : List ℕ) × (rest : List ℕ)
    × (bytes ≡ flat_map part_text parts ++ (begun_text units ++ (unit ++ rest))) × FrontsBegin judge units unit × (judge units unit ≡ Breaks broken))
