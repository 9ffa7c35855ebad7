use Rattle.std.proofs.Common.{◌≡◌, length, take}
use Rattle.std.specs.Option.{ForSome}
use Rattle.repo_slice.specs.declared.wanting.Stage.TheVariants.{Tips}
use Rattle.repo_slice.specs.Parts.{case_in}
use Rattle.repo_slice.specs.Rounds.{AreEarly, AreProgress}
use Rattle.repo_slice.proofs.rounds.go_on_all.Given as goal

abbrev pub invariant-loop-i : goal.invariant-loop-i
invariant-loop-i g l =
    let content = g.O.Objects.content in
    record {
      kept : content l.objects ≡ content l.fn.objects;
      beside : g.O.Objects.beside l.objects ≡ g.O.Objects.beside l.fn.objects;
      still : g.O.Objects.faults l.objects ≡ g.O.Objects.faults l.fn.objects;
      told : ForSome (content l.fn.objects) (λ m. AreProgress m (case_in l.terms) Tips l.roots.items (take l.i l.pairs) l.found.items);
      early : AreEarly l.found.items;
      long : length l.found.items ≡ l.i;
    }
