use Rattle.std.proofs.Common.{◌≡◌, take}
use Rattle.std.specs.Option.{ForSome}
use Rattle.canonical_head.specs.Tables.{AreRows}
use Rattle.canonical_head.proofs.plain.table_by_histories.Given as goal

abbrev pub invariant-loop-tip : goal.invariant-loop-tip
invariant-loop-tip g l =
    let content = g.O.Objects.content in
    let beside = g.O.Objects.beside in
    let faults = g.O.Objects.faults in
    record {
      kept : content l.objects ≡ content l.fn.objects;
      beside : beside l.objects ≡ beside l.fn.objects;
      still : faults l.objects ≡ faults l.fn.objects;
      filled : ForSome (content l.fn.objects) (λ m. AreRows m l.tips (take l.tip-index l.tips) l.rows);
    }
