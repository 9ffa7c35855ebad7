use Rattle.std.proofs.Common.{true, ◌≡◌, List, ℕ, sym, ◌∙◌, ap}
use Rattle.rad_outside.specs.MemoryDiskClock.{elapses_kept}
use Rattle.rad_outside.specs.MemoryDisk.{State, overwritten, part, written}
use Rattle.rad_outside.specs.MemoryDiskLaws.{images_written, state_pushed, torn_written}
use Rattle.rad_outside.specs.CallLog.{state_of}
use Rattle.rad_outside.specs.declared.call.Call.TheVariants.{Write}
use Rattle.rad_outside.proofs.call_log.CallLog.write.Goals as goal

pub invariant_of-self-2 : goal.invariant_of-self-2
invariant_of-self-2 c =
    let old = c.args.self.now in
    let copy : List ℕ = c.in_ok-copy.copy.items in
    let call = Write c.args.place c.in_ok-copy.copy c.args.failed in
    let items = c.push.new.self.items in
    let pushed = state_pushed old.first.items old.calls.items items call c.in_ok-push.ensures.items in
    let from : c.part_of.result.now ≡ part c.args.failed copy =
    c.part_of.ensures ∙ ap (part c.args.failed) (sym c.in_ok-copy.ensures) in
    record {
      replayed =
          c.in_ok-next.ensures
          ∙ ap (λ (bytes : List ℕ). overwritten c.args.place bytes c.bytes.result.now) from
          ∙ ap (overwritten c.args.place (part c.args.failed copy)) c.bytes.ensures
          ∙ sym (ap (λ (s : State). s.reads) pushed);
    }

pub returns-clause-ok : goal.returns-clause-ok
returns-clause-ok c =
    let old = c.args.self.now in
    let call = Write c.args.place c.in_ok-copy.copy c.args.failed in
    state_pushed old.first.items old.calls.items c.push.new.self.items call c.in_ok-push.ensures.items
    ∙ ap (λ (bytes : List ℕ). written c.args.place bytes c.args.failed (state_of old)) c.in_ok-copy.ensures

pub returns-clause-torn : goal.returns-clause-torn
returns-clause-torn c =
    let old = state_of c.args.self.now in
    torn_written c.args.place c.args.failed c.args.from.now old _ (returns-clause-ok c)

pub returns-clause-images : goal.returns-clause-images
returns-clause-images c =
    let old = state_of c.args.self.now in
    images_written c.args.place c.args.failed c.args.from.now old _ (returns-clause-ok c)

pub returns-clause-time : goal.returns-clause-time
returns-clause-time c =
    let old = c.args.self.now in
    let call = Write c.args.place c.in_ok-copy.copy c.args.failed in
    let items = c.push.new.self.items in
    elapses_kept old.first.items old.calls.items items call true c.in_ok-push.ensures.items
