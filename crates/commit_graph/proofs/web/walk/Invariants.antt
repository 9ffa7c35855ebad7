use Rattle.std.proofs.Common.{◌≡◌, ◌≤◌, ◌-◌, ◌^◌, ◌+◌, length, take}
use Rattle.std.specs.Option.{ForSome}
use Rattle.commit_graph.proofs.WebTurns.{Gathering}
use Rattle.commit_graph.proofs.web.walk.Given as goal

abbrev pub invariant-loop-i : goal.invariant-loop-i
invariant-loop-i g l =
    let content = g.O.Objects.content in
    let beside = g.O.Objects.beside in
    let faults = g.O.Objects.faults in
    let looks = g.O.Objects.looks in
    record {
      kept : content l.objects ≡ content l.fn.objects;
      beside : beside l.objects ≡ beside l.fn.objects;
      still : faults l.objects ≡ faults l.fn.objects;
      looked : ForSome (content l.fn.objects) (λ _. looks l.objects ≤ looks l.fn.objects + length (take l.i l.found));
      gathering : ForSome (content l.fn.objects)
          (λ m. Gathering m l.roots l.i l.found (record { back = l.back; missing = l.missing; unfit = l.unfit }));
    }

abbrev pub decreases-loop-i : goal.decreases-loop-i
decreases-loop-i g l = 2 ^ 64 - l.i
