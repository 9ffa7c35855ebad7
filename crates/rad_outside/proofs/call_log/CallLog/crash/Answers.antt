use Rattle.std.proofs.Common.{◌∙◌, ap, arith, sym, take}
use Rattle.rad_outside.specs.Crashes.{filled_image}
use Rattle.rad_outside.specs.MemoryDisk.{State, state_after}
use Rattle.rad_outside.specs.MemoryDiskLaws.{state_taken}
use Rattle.rad_outside.proofs.call_log.CallLog.crash.Goals as goal

pub loop-had-preserved : goal.loop-had-preserved
loop-had-preserved c =
    let first = c.args.self.now.first.items in
    let calls = take c.min.result c.deref-3.result.now in
    let s = state_after first (take c.loop-had.had-index calls) in
    let step = state_taken first calls c.loop-had.had-index c.had-item.result (omega (arith, c.loop-had-test.true)) c.had-item.is in
    record {
      reads = c.in_ok-reads-2.ensures s c.loop-had.invariant.reads ∙ sym (ap (λ (t : State). t.reads) step);
      image = c.in_ok-image-2.ensures s (c.deref-in-loop-had.ensures.value ∙ c.loop-had.invariant.reads) c.loop-had.invariant.image ∙ sym (ap (filled_image c.args.fill) step);
    }
