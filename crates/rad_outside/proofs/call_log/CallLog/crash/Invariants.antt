use Rattle.std.proofs.Common.{◌≡◌, take}
use Rattle.rad_outside.specs.Crashes.{filled_image}
use Rattle.rad_outside.specs.MemoryDisk.{state_after}
use Rattle.rad_outside.proofs.call_log.CallLog.crash.Given as goal

abbrev pub invariant-loop-had : goal.invariant-loop-had
invariant-loop-had l = record {
  reads : l.reads.items ≡ (state_after l.self.first.items (take l.had-index l.had-items)).reads;
  image : l.image.items ≡ filled_image l.fill (state_after l.self.first.items (take l.had-index l.had-items));
}
