use Rattle.std.proofs.Common.{◌≡◌, ◌≤◌, ◌+◌, ◌-◌, ◌^◌}
use Rattle.std.specs.Option.{ForSome}
use Rattle.commit_graph.proofs.BeyondTurns.{Search}
use Rattle.commit_graph.proofs.beyond.search.Given as goal

abbrev pub invariant-loop-i : goal.invariant-loop-i
invariant-loop-i g l =
    let content = g.O.Objects.content in
    let beside = g.O.Objects.beside in
    let faults = g.O.Objects.faults in
    let looks = g.O.Objects.looks in
    record {
      kept : content l.objects ≡ content l.fn.objects;
      beside : beside l.objects ≡ beside l.fn.objects;
      still : faults l.objects ≡ faults l.fn.objects;
      looked : looks l.objects + l.fn.steps ≤ looks l.fn.objects + l.steps;
      progress : ForSome (content l.fn.objects) (λ m. Search m l.known l.roots l.i l.found l.facts l.missing l.unfit l.fn.steps l.steps);
    }

abbrev pub decreases-loop-i : goal.decreases-loop-i
decreases-loop-i g l = 2 ^ 64 - l.i
