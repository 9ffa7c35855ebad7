-- The calls of a disk in memory.
use Rattle.std.specs.Prelude.{◌≡◌, ◌⊎◌, ◌+◌, Bool, true, false, Result, OnOk, OnErr}
use Rattle.rad_outside.specs.CallLog.{moment_of, state_of}
use Rattle.rad_outside.specs.FailingCalls.{FailsNext, one_later}
use Rattle.rad_outside.specs.MemoryDisk.{State}
use Rattle.rad_outside.specs.declared.failing_calls.FailingCalls.{FailingCalls}
use Rattle.rad_outside.specs.declared.memory_disk.MemDisk.{MemDisk}

-- which calls are to fail, and how many it has had
abbrev pub fails_of : MemDisk → FailingCalls
fails_of disk = disk.fails

-- a call that was kept: it counts, a moment passed, and it left this state
pub record IsKept (old new : MemDisk) (state : State) : Type 0 where
  pub counted : fails_of new ≡ one_later (fails_of old)
  pub moment : moment_of new.log ≡ moment_of old.log + 1
  pub left : state_of new.log ≡ state

-- a call that was not kept, for want of memory: it does not count, and changed nothing
pub record IsNotKept (old new : MemDisk) : Type 0 where
  pub counted : fails_of new ≡ fails_of old
  pub moment : moment_of new.log ≡ moment_of old.log
  pub left : state_of new.log ≡ state_of old.log

-- A call, by the state that it leaves where it fails and where it does not. One that succeeds is
-- not listed, and was kept. One that fails was not kept, or is listed.
pub record HadDiskCall {T E : Type 0} (old new : MemDisk) (state : Bool → State)
    (result : Result T E) : Type 0 where
  pub done : OnOk result ((FailsNext (fails_of old) → ⊥) × IsKept old new (state false))
  pub refused : OnErr result
      (IsNotKept old new ⊎ (FailsNext (fails_of old) × IsKept old new (state true)))
