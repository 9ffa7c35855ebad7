-- What bytes say of the unit of a frame that stands next.
use Rattle.std.specs.Prelude.{ℕ, ◌+◌, ◌-◌, ◌/◌, ◌%◌, ◌^◌, ◌==◌, min, nat_lt, nat_eq, if◌then◌else◌, Bool, false, List, [], length, None, Some}
use Rattle.std.specs.List.{starts_with}
use Rattle.rad_base.specs.Varint.{varint_in}
use Rattle.rad_base.specs.declared.varint.Varint.{Varint}
use Rattle.rad_base.specs.declared.varint.Varint.TheVariants.{Value, Short, Long}
use Rattle.unit_reader.specs.Units.{Verdict, Begins, Ends, Breaks}
use Rattle.gossip_wire.specs.Frames.{magic}
use Rattle.gossip_wire.specs.declared.units.FrameBreak.{FrameBreak}
use Rattle.gossip_wire.specs.declared.units.FrameBreak.TheVariants.{BadMagic, LongVarint, TooLong, BadKind}
use Rattle.gossip_wire.specs.declared.units.Field.{Field}
use Rattle.gossip_wire.specs.declared.units.Field.TheVariants as fields
use Rattle.gossip_wire.specs.declared.units.FrameUnits.{FrameUnits}
use Rattle.gossip_wire.specs.declared.units.UnreadFrame.{UnreadFrame}

-- what bytes say of a unit of a frame
abbrev pub Said : Type 0
Said = Verdict FrameUnits UnreadFrame FrameBreak

-- so many bytes further on. A place stands still at 2^64 - 1
abbrev pub further : ℕ → ℕ → ℕ
further place count = min (place + count) (2 ^ 64 - 1)

-- frames are read to no end
abbrev pub never : FrameUnits → Bool
never units = false

-- the kind in the number of a stream
abbrev pub stream_kind : ℕ → ℕ
stream_kind stream = stream % 8 / 2

-- the next unit is this one, so many bytes on
abbrev pub onto : FrameUnits → ℕ → Field → FrameUnits
onto units count field = record { frame = units.frame; field = further units.field count; next = field }

-- the first unit of a frame that begins here
abbrev pub begins_at : ℕ → FrameUnits
begins_at place = record { frame = place; field = place; next = fields.Magic }

-- the first unit of the first frame
abbrev pub first_unit : FrameUnits
first_unit = begins_at 0

-- a whole payload
abbrev pub judge_payload : ℕ → FrameUnits → List ℕ → Said
judge_payload stream units payload =
    Ends (Some (record { place = units.frame; inside = units.field; stream = stream; payload = payload }))
    (begins_at (further units.field (length payload)))

-- the magic, judged at the first byte that differs
abbrev pub judge_magic : FrameUnits → List ℕ → Said
judge_magic units held =
    if starts_with nat_eq magic held
    then (if length held == 4 then Ends None (onto units 4 fields.Stream) else Begins)
    else Breaks (BadMagic (further units.field (length held - 1)))

-- the number of the stream
abbrev pub judge_stream : FrameUnits → Varint → Said
judge_stream units Short = Begins
judge_stream units Long = Breaks (LongVarint units.field)
judge_stream units (Value stream size) =
    if stream_kind stream == 3 then Breaks (BadKind units.field) else Ends None (onto units size (fields.Length stream))

-- the length of the payload. An empty one is judged at once
abbrev pub judge_length : ℕ → FrameUnits → Varint → Said
judge_length stream units Short = Begins
judge_length stream units Long = Breaks (LongVarint units.field)
judge_length stream units (Value count size) =
    if nat_lt 65535 count then Breaks (TooLong units.field)
    else if count == 0 then judge_payload stream (onto units size (fields.Payload stream 0)) []
    else Ends None (onto units size (fields.Payload stream count))

-- by the field that stands next
abbrev pub judge_field : Field → FrameUnits → List ℕ → Said
judge_field fields.Magic units held = judge_magic units held
judge_field fields.Stream units held = judge_stream units (varint_in held)
judge_field (fields.Length stream) units held = judge_length stream units (varint_in held)
judge_field (fields.Payload stream count) units held =
    if nat_lt (length held) count then Begins else judge_payload stream units held

-- what the bytes say
unfoldable pub judge : FrameUnits → List ℕ → Said
judge units held = judge_field units.next units held
