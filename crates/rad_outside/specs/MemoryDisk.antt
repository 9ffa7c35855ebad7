-- A disk in memory, by the calls that it has had.
use Rattle.std.specs.Prelude.{◌≡◌, ℕ, ◌+◌, ◌-◌, ◌/◌, ◌≤◌, List, [], ◌∷◌, ◌++◌, length, take, drop}
use Rattle.std.specs.Prelude.{replicate, Bool, true, false, Option, None, Some, Vec}
use Rattle.std.specs.declared.alloc.Global.{Global}
use Rattle.rad_outside.specs.Disks.{Torn}
use Rattle.rad_outside.specs.declared.call.Call.{Call}
use Rattle.rad_outside.specs.declared.call.Call.TheVariants.{Look, Write, Sync}

-- these bytes over what is there, and zeros between the old end and a place behind it
abbrev pub overwritten : ℕ → List ℕ → List ℕ → List ℕ
overwritten place bytes old =
    take place old ++ replicate (place - length old) 0 ++ bytes ++ drop (place + length bytes) old

-- what a write that fails has written: the first half
abbrev pub part : Bool → List ℕ → List ℕ
part true bytes = take (length bytes / 2) bytes
part false bytes = bytes

-- What the disk reads as, what it read as at the last sync that succeeded, and the ranges (place,
-- length) written since, the newest first.
pub record State : Type 0 where
  pub reads : List ℕ
  pub synced : List ℕ
  pub ranges : List (ℕ × ℕ)

-- nothing was written since these bytes were synced
abbrev pub new_state : List ℕ → State
new_state bytes = record { reads = bytes; synced = bytes; ranges = [] }

-- after a write of these bytes, of which the first half was written where it failed
abbrev pub written : ℕ → List ℕ → Bool → State → State
written place bytes failed s = record {
  reads = overwritten place (part failed bytes) s.reads;
  synced = s.synced;
  ranges = (place, length bytes) ∷ s.ranges;
}

-- after a sync, which changes nothing where it failed
abbrev pub synced : Bool → State → State
synced true s = s
synced false s = new_state s.reads

-- after a call
abbrev pub after : State → Call → State
after s Look = s
after s (Write place bytes failed) = written place bytes.items failed s
after s (Sync failed) = synced failed s

-- after these calls in order
abbrev pub after_all : State → List Call → State
after_all s [] = s
after_all s (call ∷ calls) = after_all (after s call) calls

-- the state of a disk that had these bytes first, after these calls
abbrev pub state_after : List ℕ → List Call → State
state_after first calls = after_all (new_state first) calls

-- an image after torn writes of these ranges
abbrev pub IsTorn : List ℕ → List (ℕ × ℕ) → List ℕ → Type 0
IsTorn synced [] image = image ≡ synced
IsTorn synced (range ∷ ranges) image =
    (before : List ℕ) × IsTorn synced ranges before × Torn range.0 range.1 before image

-- an image that a crash may leave
abbrev pub IsImage : State → List ℕ → Type 0
IsImage s image = IsTorn s.synced s.ranges image

-- an image that a crash since the moment t might have left: after some of the calls, t or more
pub record IsImageSince (first : List ℕ) (calls : List Call) (t : ℕ) (image : List ℕ) : Type 0 where
  pub count : ℕ
  pub since : t ≤ count
  pub had : count ≤ length calls
  pub is : IsImage (state_after first (take count calls)) image

-- what the last write left, or what there was first
abbrev pub latest : Vec ℕ Global → Option (Vec ℕ Global) → List ℕ
latest first None = first.items
latest first (Some bytes) = bytes.items
