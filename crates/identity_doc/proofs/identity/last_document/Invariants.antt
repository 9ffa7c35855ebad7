use Rattle.std.proofs.Common.{◌≡◌, ◌∷◌, take}
use Rattle.identity_doc.specs.Texts.{IsSomeText}
use Rattle.std.specs.Option.{ForSome}
use Rattle.rad_base.specs.declared.names.Oid.{Oid}
use Rattle.commit_graph.specs.Chains.{IsChain}
use Rattle.identity_doc.specs.IdentityChains.{EndsLine}
use Rattle.identity_doc.proofs.identity.last_document.Given as goal

abbrev pub invariant-loop-commit : goal.invariant-loop-commit
invariant-loop-commit g l =
    let content = g.O.Objects.content in
    let beside = g.O.Objects.beside in
    let faults = g.O.Objects.faults in
    record {
      kept : content l.objects ≡ content l.fn.objects;
      beside : beside l.objects ≡ beside l.fn.objects;
      text : IsSomeText l.keyring l.doc;
      still : faults l.objects ≡ faults l.fn.objects;
      line : ForSome (content l.fn.objects) (λ m. (tip : Oid) → IsChain m (l.fn.root ∷ l.later) tip
          → EndsLine m l.keyring l.rid (l.fn.root ∷ take l.commit-index l.later) l.parent l.doc);
    }
