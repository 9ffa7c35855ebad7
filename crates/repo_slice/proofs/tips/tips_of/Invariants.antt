use Rattle.std.proofs.Common.{◌≡◌, take}
use Rattle.std.specs.Option.{ForSome}
use Rattle.repo_slice.specs.Heads.{AreTips}
use Rattle.repo_slice.proofs.tips.tips_of.Given as goal

abbrev pub invariant-loop-node : goal.invariant-loop-node
invariant-loop-node g l =
    let content = g.O.Objects.content in
    record {
      kept : content l.objects ≡ content l.fn.objects;
      beside : g.O.Objects.beside l.objects ≡ g.O.Objects.beside l.fn.objects;
      still : g.O.Objects.faults l.objects ≡ g.O.Objects.faults l.fn.objects;
      told : ForSome (content l.fn.objects) (λ m. AreTips m l.remotes l.name (take l.node-index l.nodes) l.tips.items);
    }
