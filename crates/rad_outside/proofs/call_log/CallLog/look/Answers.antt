use Rattle.std.proofs.Common.{true, sym, ◌∙◌, ap}
use Rattle.rad_outside.specs.MemoryDiskClock.{elapses_kept}
use Rattle.rad_outside.specs.MemoryDisk.{State}
use Rattle.rad_outside.specs.MemoryDiskLaws.{looked, state_pushed}
use Rattle.rad_outside.specs.declared.call.Call.TheVariants.{Look}
use Rattle.rad_outside.proofs.call_log.CallLog.look.Goals as goal

pub invariant_of-self : goal.invariant_of-self
invariant_of-self c =
    let old = c.args.self.now in
    let same = looked old.first.items old.calls.items c.push.new.self.items _ c.push.ensures.items in
    record { replayed = old.replayed ∙ sym (ap (λ (s : State). s.reads) same) }

pub returns-clause-same : goal.returns-clause-same
returns-clause-same c =
    let old = c.args.self.now in
    state_pushed old.first.items old.calls.items c.push.new.self.items Look c.in_ok-push.ensures.items

pub returns-clause-time : goal.returns-clause-time
returns-clause-time c =
    let old = c.args.self.now in
    let items = c.push.new.self.items in
    elapses_kept old.first.items old.calls.items items Look true c.in_ok-push.ensures.items
