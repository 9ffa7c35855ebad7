use Rattle.std.proofs.Common.{◌≡◌, ◌-◌, ◌^◌, take}
use Rattle.std.specs.Option.{ForSome}
use Rattle.commit_graph.specs.Pairs.{IsLink}
use Rattle.commit_graph.proofs.Spread.{Spread}
use Rattle.commit_graph.proofs.plain.reached_pairs.Given as goal

abbrev pub invariant-loop-i : goal.invariant-loop-i
invariant-loop-i g l =
    let content = g.O.Objects.content in
    let beside = g.O.Objects.beside in
    let faults = g.O.Objects.faults in
    record {
      kept : content l.objects ≡ content l.fn.objects;
      beside : beside l.objects ≡ beside l.fn.objects;
      still : faults l.objects ≡ faults l.fn.objects;
      spread : ForSome (content l.fn.objects) (λ m. Spread (IsLink m) l.roots (take l.i l.list.items) l.list.items);
    }

abbrev pub decreases-loop-i : goal.decreases-loop-i
decreases-loop-i g l = 2 ^ 64 - l.i
