use Rattle.std.proofs.Common.{◌≡◌, ◌≤◌, ◌-◌, ◌^◌, [], ◌∷◌, take, ◌+◌, length}
use Rattle.std.specs.Prelude.{Contains}
use Rattle.std.specs.Option.{ForSome}
use Rattle.commit_graph.specs.declared.root.Root.{Root}
use Rattle.commit_graph.specs.Pairs.{as_commit}
use Rattle.commit_graph.specs.Histories.{IsParent}
use Rattle.commit_graph.proofs.Spread.{Spread}
use Rattle.commit_graph.proofs.history.in_history.Given as goal

abbrev pub invariant-loop-i : goal.invariant-loop-i
invariant-loop-i g l =
    let content = g.O.Objects.content in
    let beside = g.O.Objects.beside in
    let faults = g.O.Objects.faults in
    let looks = g.O.Objects.looks in
    record {
      kept : content l.objects ≡ content l.fn.objects;
      beside : beside l.objects ≡ beside l.fn.objects;
      still : faults l.objects ≡ faults l.fn.objects;
      looked : ForSome (content l.fn.objects) (λ _. looks l.objects ≤ looks l.fn.objects + length (take l.i l.found));
      spread : ForSome (content l.fn.objects) (λ m. Spread (IsParent m) (as_commit l.fn.new ∷ []) (take l.i l.found) l.found);
      other : ForSome (content l.fn.objects) (λ _. (q : Root) → Contains (take l.i l.found) q → q.oid ≡ l.old → ⊥);
    }

abbrev pub decreases-loop-i : goal.decreases-loop-i
decreases-loop-i g l = 2 ^ 64 - l.i
