use Rattle.std.proofs.Common.{◌≡◌, take}
use Rattle.std.specs.Option.{ForSome}
use Rattle.fetch_serve.specs.Parts.{Adds}
use Rattle.fetch_serve.specs.Replies.{Among, IsTipsRoot}
use Rattle.fetch_serve.specs.Showings.{showing}
use Rattle.rad_base.specs.declared.names.Oid.{Oid}
use Rattle.fetch_serve.proofs.roots.add_tips.Given as goal

abbrev pub invariant-loop-node : goal.invariant-loop-node
invariant-loop-node g l =
    let content = g.O.Objects.content in
    record {
      kept : content l.objects ≡ content l.fn.objects;
      beside : g.O.Objects.beside l.objects ≡ g.O.Objects.beside l.fn.objects;
      still : g.O.Objects.faults l.objects ≡ g.O.Objects.faults l.fn.objects;
      told : ForSome (content l.fn.objects) (λ m. (id : Oid) → Adds (Among (take l.node-index l.nodes) (IsTipsRoot (showing m id l.remotes))) l.fn.roots.items l.roots.items);
    }
