use Rattle.std.proofs.Common.{◌≡◌, ◌≤◌, ◌+◌, ◌-◌, ◌^◌, length}
use Rattle.std.specs.Option.{ForSome}
use Rattle.commit_graph.proofs.ChainLines.{Line}
use Rattle.commit_graph.proofs.chains.chain.Given as goal

abbrev pub invariant-walking : goal.invariant-walking
invariant-walking g l =
    let content = g.O.Objects.content in
    let beside = g.O.Objects.beside in
    let faults = g.O.Objects.faults in
    let looks = g.O.Objects.looks in
    record {
      kept : content l.objects ≡ content l.fn.objects;
      beside : beside l.objects ≡ beside l.fn.objects;
      still : faults l.objects ≡ faults l.fn.objects;
      looked : ForSome (content l.fn.objects) (λ _. looks l.objects ≤ looks l.fn.objects + length l.line);
      line : ForSome (content l.fn.objects) (λ m. Line m l.tip l.line l.oid);
    }

abbrev pub decreases-walking : goal.decreases-walking
decreases-walking g l = 2 ^ 64 - length l.line
