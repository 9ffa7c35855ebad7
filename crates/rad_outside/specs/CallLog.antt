-- The state that a log of calls leads to, and its moments.
use Rattle.std.specs.Prelude.{ℕ, ◌+◌, List, length, Bool, if◌then◌else◌}
use Rattle.rad_outside.specs.Disks.{Elapses}
use Rattle.rad_outside.specs.MemoryDisk.{State, state_after, IsImage, IsImageSince}
use Rattle.rad_outside.specs.declared.call_log.CallLog.{CallLog}

-- the state after all its calls
abbrev pub state_of : CallLog → State
state_of log = state_after log.first.items log.calls.items

-- its moment is the number of its calls
abbrev pub moment_of : CallLog → ℕ
moment_of log = length log.calls.items

-- the moment after one more call: where it was kept, the next
abbrev pub moment_after : Bool → CallLog → ℕ
moment_after kept log = if kept then moment_of log + 1 else moment_of log

-- the images that a crash since a moment might have left
abbrev pub since_of : CallLog → ℕ → List ℕ → Type 0
since_of log = IsImageSince log.first.items log.calls.items

-- the time that a call takes
abbrev pub LogElapses : CallLog → CallLog → Type 0
LogElapses old new =
    Elapses (moment_of old) (moment_of new) (since_of old) (since_of new) (IsImage (state_of new))
