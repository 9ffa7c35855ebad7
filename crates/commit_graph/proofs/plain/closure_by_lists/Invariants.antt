use Rattle.std.proofs.Common.{◌≡◌, take}
use Rattle.std.specs.Option.{ForSome}
use Rattle.commit_graph.proofs.ClosureTurns.{Tally}
use Rattle.commit_graph.proofs.plain.closure_by_lists.Given as goal

abbrev pub invariant-loop-pair : goal.invariant-loop-pair
invariant-loop-pair g l =
    let content = g.O.Objects.content in
    let beside = g.O.Objects.beside in
    let faults = g.O.Objects.faults in
    record {
      kept : content l.objects ≡ content l.fn.objects;
      beside : beside l.objects ≡ beside l.fn.objects;
      still : faults l.objects ≡ faults l.fn.objects;
      tally : ForSome (content l.fn.objects) (λ m. Tally m (take l.pair-index l.pair-items) l.missing l.unfit);
    }
