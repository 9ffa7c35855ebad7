-- What doors in memory have still to give, and their calls.
use Rattle.std.specs.Prelude.{◌≡◌, ℕ, List, [], map, ◌⊎◌, Result, IsErr, OnOk, OnErr}
use Rattle.std.specs.String.{string_bytes}
use Rattle.rad_outside.specs.FailingCalls.{FailsNext, one_later}
use Rattle.rad_outside.specs.declared.failing_calls.FailingCalls.{FailingCalls}
use Rattle.rad_outside.specs.declared.memory_doors.MemDoors.{MemDoors}
use Rattle.rad_outside.specs.declared.memory_link.MemLink.{MemLink}

-- the links that they have still to give
abbrev pub links_of : MemDoors → List MemLink
links_of doors = doors.links.items

-- the addresses that were dialed with success
abbrev pub dialed_of : MemDoors → List (List ℕ)
dialed_of doors = map string_bytes doors.dialed.items

-- which calls are to fail, and how many they have had
abbrev pub fails_of : MemDoors → FailingCalls
fails_of doors = doors.fails

-- the next call is one of those listed, or no link is left
abbrev pub IsToFail : MemDoors → Type 0
IsToFail doors = FailsNext doors.fails ⊎ (doors.links.items ≡ [])

-- A dial that is to fail does, and counts as a call. Another fails only for want of memory, and then
-- counts as none.
pub record HadDial {T E : Type 0} (old new : MemDoors) (result : Result T E) : Type 0 where
  pub listed : IsToFail old → IsErr result × (new.fails ≡ one_later old.fails)
  pub done : OnOk result (new.fails ≡ one_later old.fails)
  pub refused : OnErr result (¬ IsToFail old → new.fails ≡ old.fails)
