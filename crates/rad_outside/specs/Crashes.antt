-- What a crash leaves of a disk in memory, by what the ranges hold that were not synced.
use Rattle.std.specs.Prelude.{ℕ, List, [], ◌∷◌, take, replicate}
use Rattle.rad_outside.specs.MemoryDisk.{State, overwritten, state_after}
use Rattle.rad_outside.specs.declared.call_log.CallLog.{CallLog}
use Rattle.rad_outside.specs.declared.fill.Fill.{Fill}
use Rattle.rad_outside.specs.declared.fill.Fill.TheVariants.{Old, New, Byte}

-- these bytes with one byte all over the ranges (place, length), the newest first
abbrev pub filled : ℕ → List ℕ → List (ℕ × ℕ) → List ℕ
filled byte synced [] = synced
filled byte synced (range ∷ ranges) =
    overwritten range.0 (replicate range.1 byte) (filled byte synced ranges)

-- the image of a state in which each range written since the last sync is filled so
abbrev pub filled_image : Fill → State → List ℕ
filled_image Old s = s.synced
filled_image New s = s.reads
filled_image (Byte byte) s = filled byte s.synced s.ranges

-- the state after the first of the calls
abbrev pub state_at : CallLog → ℕ → State
state_at log call = state_after log.first.items (take call log.calls.items)
