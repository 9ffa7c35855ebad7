use Rattle.std.proofs.Common.{◌≡◌, take}
use Rattle.std.specs.Option.{ForSome}
use Rattle.fetch_serve.specs.Good.{IsShort}
use Rattle.fetch_serve.specs.Parts.{AllThere, WritesObjects}
use Rattle.fetch_serve.proofs.writing.push_objects.Given as goal

abbrev pub invariant-loop-oid : goal.invariant-loop-oid
invariant-loop-oid g l =
    let content = g.O.Objects.content in
    record {
      kept : content l.objects ≡ content l.fn.objects;
      beside : g.O.Objects.beside l.objects ≡ g.O.Objects.beside l.fn.objects;
      still : g.O.Objects.faults l.objects ≡ g.O.Objects.faults l.fn.objects;
      told : ForSome (content l.fn.objects) (λ m. IsShort m → AllThere m l.names → WritesObjects m (take l.oid-index l.names) l.fn.bytes.items l.bytes.items);
    }
