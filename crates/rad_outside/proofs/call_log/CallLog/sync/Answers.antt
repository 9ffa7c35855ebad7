use Rattle.std.proofs.Common.{true, sym, ◌∙◌}
use Rattle.rad_outside.specs.MemoryDiskClock.{elapses_kept}
use Rattle.rad_outside.specs.MemoryDiskLaws.{sync_keeps, sync_within, state_pushed}
use Rattle.rad_outside.specs.declared.call.Call.TheVariants.{Sync}
use Rattle.rad_outside.proofs.call_log.CallLog.sync.Goals as goal

pub invariant_of-self : goal.invariant_of-self
invariant_of-self c =
    let old = c.args.self.now in
    let items = c.push.new.self.items in
    let same = sync_keeps old.first.items old.calls.items items c.args.failed _ c.push.ensures.items in
    record { replayed = old.replayed ∙ sym same }

pub returns-clause-ok : goal.returns-clause-ok
returns-clause-ok c =
    let old = c.args.self.now in
    let call = Sync c.args.failed in
    state_pushed old.first.items old.calls.items c.push.new.self.items call c.in_ok-push.ensures.items

pub returns-clause-within : goal.returns-clause-within
returns-clause-within c =
    let old = c.args.self.now in
    let items = c.push.new.self.items in
    sync_within old.first.items old.calls.items items c.args.failed _ c.push.ensures.items

pub returns-clause-time : goal.returns-clause-time
returns-clause-time c =
    let old = c.args.self.now in
    let items = c.push.new.self.items in
    elapses_kept old.first.items old.calls.items items (Sync c.args.failed) true c.in_ok-push.ensures.items
