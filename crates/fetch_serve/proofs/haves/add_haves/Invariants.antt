use Rattle.std.proofs.Common.{◌≡◌, take}
use Rattle.std.specs.Option.{ForSome}
use Rattle.fetch_serve.specs.Parts.{Adds}
use Rattle.fetch_serve.specs.Replies.{Among, StandsFor}
use Rattle.fetch_serve.proofs.haves.add_haves.Given as goal

abbrev pub invariant-loop-have : goal.invariant-loop-have
invariant-loop-have g l =
    let content = g.O.Objects.content in
    record {
      kept : content l.objects ≡ content l.fn.objects;
      beside : g.O.Objects.beside l.objects ≡ g.O.Objects.beside l.fn.objects;
      still : g.O.Objects.faults l.objects ≡ g.O.Objects.faults l.fn.objects;
      told : ForSome (content l.fn.objects) (λ m. Adds (Among (take l.have-index l.haves) (StandsFor m)) l.fn.roots.items l.roots.items);
    }
