-- What bytes say of the unit of a section that stands next.
use Rattle.std.specs.Prelude.{◌≡◌, ℕ, ◌+◌, ◌-◌, ◌^◌, ◌<◌, ◌==◌, min, nat_lt, nat_le, nat_eq, if◌then◌else◌, Bool, true, false, ◌||◌, ◌&&◌, List, [], ◌∷◌, ◌++◌, length, take, drop, slice_index, slice_get, slice_range, replicate, Option, None, Some}
use Rattle.std.specs.List.{starts_with}
use Rattle.std.specs.Int.{from_be_bytes, w16, w32}
use Rattle.rad_base.specs.Order.{is_above}
use Rattle.rad_base.specs.declared.names.Nid.{Nid}
use Rattle.rad_base.specs.declared.names.Oid.{Oid}
use Rattle.git_object.specs.declared.kind.Kind.{Kind}
use Rattle.git_object.specs.declared.kind.Kind.TheVariants as kinds
use Rattle.unit_reader.specs.Units.{Verdict, Begins, Ends, Breaks}
use Rattle.fetch_wire.specs.Sections.{end_word}
use Rattle.fetch_wire.specs.declared.fault.Break.{Break}
use Rattle.fetch_wire.specs.declared.part.Part.{Part}
use Rattle.fetch_wire.specs.declared.part.Part.TheVariants as part
use Rattle.fetch_wire.specs.declared.part.Which.{Which}
use Rattle.fetch_wire.specs.declared.part.Which.TheVariants as which
use Rattle.fetch_wire.specs.declared.units.Next.{Next}
use Rattle.fetch_wire.specs.declared.units.Next.TheVariants as next
use Rattle.fetch_wire.specs.declared.units.SectionUnits.{SectionUnits}

-- what bytes say of a unit of a section
abbrev pub Said : Type 0
Said = Verdict SectionUnits Part Break

-- so many bytes further on. A place stands still at 2^64 - 1
abbrev pub further : ℕ → ℕ → ℕ
further place count = min (place + count) (2 ^ 64 - 1)

-- the unit is broken, as so many bytes of it show
abbrev pub break_at : SectionUnits → ℕ → Break
break_at units count = record { place = units.place; shown = further units.place count }

-- the next unit is this one, so many bytes on
abbrev pub onto : SectionUnits → ℕ → Next → SectionUnits
onto units count after = record { place = further units.place count; next = after; id = units.id; remotes = units.remotes }

-- the first byte of a section of a kind
abbrev pub head_byte : Which → ℕ
head_byte which.Identity = 73
head_byte which.Sigs = 83
head_byte which.Tips = 68

-- the kind of a byte
abbrev pub kind_in : ℕ → Option Kind
kind_in b = if b == 1 then Some kinds.Commit else if b == 2 then Some kinds.Tree else if b == 3 then Some kinds.Blob else if b == 4 then Some kinds.Tag else None

-- the code of a refusal is 1 or 2
abbrev pub judge_code : SectionUnits → ℕ → Said
judge_code units code =
    if (code == 1) || (code == 2) then Ends (Some (part.Refused code)) (onto units 2 next.Nothing)
    else Breaks (break_at units 2)

-- a refusal: the letter R and a code, judged when both are there
abbrev pub judge_refusal : SectionUnits → List ℕ → Said
judge_refusal units held = if length held == 2 then judge_code units (slice_index held 1) else Begins

-- the offer that the state has
abbrev pub offer_of : SectionUnits → List (Nid × Oid) → Part
offer_of units remotes = part.Offer (record { id = units.id; remotes = remotes })

-- with this identity
abbrev pub with_id : SectionUnits → Oid → SectionUnits
with_id units id = record { place = units.place; next = units.next; id = id; remotes = units.remotes }

-- with these remotes
abbrev pub with_remotes : SectionUnits → List (Nid × Oid) → SectionUnits
with_remotes units remotes = record { place = units.place; next = units.next; id = units.id; remotes = remotes }

-- the first unit of an identity section, by its identity and the number of its remotes
abbrev pub judge_count : SectionUnits → Oid → ℕ → Said
judge_count units id count =
    if nat_lt 1024 count then Breaks (break_at units 23)
    else if count == 0 then Ends (Some (offer_of (with_id units id) [])) (onto (with_id units id) 23 next.Part)
    else Ends None (onto (with_id units id) 23 (next.Remote count))

-- its 23 bytes are judged when all are there
abbrev pub judge_offer : SectionUnits → List ℕ → Said
judge_offer units held =
    if length held == 23
    then judge_count units (record { 0 = slice_range held 1 21 }) (from_be_bytes w16 (slice_index held 21 ∷ slice_index held 22 ∷ []))
    else Begins

-- a head that is one letter
abbrev pub judge_letter : Part → SectionUnits → List ℕ → Said
judge_letter head units held = if length held == 1 then Ends (Some head) (onto units 1 next.Part) else Begins

-- the head of a section of a kind
abbrev pub judge_head : Which → SectionUnits → List ℕ → Said
judge_head which.Identity units held = judge_offer units held
judge_head which.Sigs units held = judge_letter part.SigsHead units held
judge_head which.Tips units held = judge_letter part.TipsHead units held

-- a head or a refusal, by the first byte
abbrev pub judge_front : Which → SectionUnits → List ℕ → Said
judge_front w units held =
    if slice_index held 0 == 82 then judge_refusal units held
    else if slice_index held 0 == head_byte w then judge_head w units held
    else Breaks (break_at units (length held))

-- a remote more, of so many that were left
abbrev pub judge_pair : SectionUnits → ℕ → Nid → Oid → Said
judge_pair units left node oid =
    if is_above units.remotes node
    then (if nat_le left 1 then Ends (Some (offer_of units (units.remotes ++ (node, oid) ∷ []))) (onto (with_remotes units []) 52 next.Part)
    else Ends None (onto (with_remotes units (units.remotes ++ (node, oid) ∷ [])) 52 (next.Remote (left - 1))))
    else Breaks (break_at units 52)

-- its 52 bytes are judged when all are there
abbrev pub judge_remote : ℕ → SectionUnits → List ℕ → Said
judge_remote left units held =
    if length held == 52
    then judge_pair units left (record { 0 = slice_range held 0 32 }) (record { 0 = slice_range held 32 52 })
    else Begins

-- the head of an object, by its kind and its length
abbrev pub judge_length : Kind → SectionUnits → ℕ → Said
judge_length kind units count =
    if nat_lt 33554432 count then Breaks (break_at units 6)
    else if count == 0 then Ends (Some (part.Object kind [])) (onto units 6 next.Part)
    else Ends None (onto units 6 (next.Content kind count))

abbrev pub judge_kind : Option Kind → SectionUnits → ℕ → Said
judge_kind None units count = Breaks (break_at units 6)
judge_kind (Some kind) units count = judge_length kind units count

-- its six bytes are judged when all are there
abbrev pub judge_object : SectionUnits → List ℕ → Said
judge_object units held =
    if length held == 6
    then judge_kind (kind_in (slice_index held 1)) units (from_be_bytes w32 (slice_index held 2 ∷ slice_index held 3 ∷ slice_index held 4 ∷ slice_index held 5 ∷ []))
    else Begins

-- the end word, which is judged at the first byte that differs
abbrev pub judge_end : SectionUnits → List ℕ → Said
judge_end units held =
    if starts_with nat_eq end_word held
    then (if length held == 4 then Ends (Some part.End) (onto units 4 next.Nothing) else Begins)
    else Breaks (break_at units (length held))

-- the head of an object or the end word, by the first byte
abbrev pub judge_part : SectionUnits → List ℕ → Said
judge_part units held = if slice_index held 0 == 79 then judge_object units held else judge_end units held

abbrev pub judge_content : Kind → ℕ → SectionUnits → List ℕ → Said
judge_content kind count units held =
    if length held == count then Ends (Some (part.Object kind held)) (onto units count next.Part) else Begins

abbrev pub judge_next : Next → SectionUnits → List ℕ → Said
judge_next (next.Head w) units held = judge_front w units held
judge_next (next.Remote left) units held = judge_remote left units held
judge_next next.Part units held = judge_part units held
judge_next (next.Content kind count) units held = judge_content kind count units held
judge_next next.Nothing units held = Breaks (break_at units (length held))

-- what the bytes say
unfoldable pub judge : SectionUnits → List ℕ → Said
judge units held = judge_next units.next units held

-- nothing stands behind the end word and a refusal
abbrev pub is_nothing : Next → Bool
is_nothing (next.Head w) = false
is_nothing (next.Remote left) = false
is_nothing next.Part = false
is_nothing (next.Content kind count) = false
is_nothing next.Nothing = true

-- the section has ended
abbrev pub is_over : SectionUnits → Bool
is_over units = is_nothing units.next

-- the first unit of a section of a kind
abbrev pub first_unit : Which → SectionUnits
first_unit w = record { place = 0; next = next.Head w; id = record { 0 = replicate 20 0 }; remotes = [] }
