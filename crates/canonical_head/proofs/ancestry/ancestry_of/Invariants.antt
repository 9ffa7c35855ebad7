use Rattle.std.proofs.Common.{◌≡◌, ◌≤◌, ◌-◌, ◌+◌, ◌^◌, take, length}
use Rattle.std.specs.Option.{ForSome}
use Rattle.std.specs.Prelude.{Contains}
use Rattle.rad_base.specs.declared.names.Oid.{Oid}
use Rattle.commit_graph.proofs.Spread.{Spread}
use Rattle.canonical_head.specs.Ancestries.{IsParentOf}
use Rattle.canonical_head.proofs.AncestryWalks.{AreParentRows, IsBelow}
use Rattle.canonical_head.proofs.ancestry.ancestry_of.Given as goal

abbrev pub invariant-loop-i : goal.invariant-loop-i
invariant-loop-i g l =
    let content = g.O.Objects.content in
    let beside = g.O.Objects.beside in
    let faults = g.O.Objects.faults in
    let looks = g.O.Objects.looks in
    record {
      kept : content l.objects ≡ content l.fn.objects;
      beside : beside l.objects ≡ beside l.fn.objects;
      still : faults l.objects ≡ faults l.fn.objects;
      looked : ForSome (content l.fn.objects) (λ _. looks l.objects ≤ looks l.fn.objects + length (take l.i l.commits));
      front : (tip : Oid) → Contains l.tips tip → Contains (take l.count l.commits) tip;
      counted : l.count ≤ length l.commits;
      turns : length l.parents ≡ l.i;
      within : l.i ≤ length l.commits;
      below : IsBelow l.commits l.parents;
      rows : ForSome (content l.fn.objects) (λ m. AreParentRows m l.commits l.parents);
      spread : ForSome (content l.fn.objects) (λ m. Spread (IsParentOf m) l.tips (take l.i l.commits) l.commits);
    }

abbrev pub decreases-loop-i : goal.decreases-loop-i
decreases-loop-i g l = 2 ^ 64 - l.i
