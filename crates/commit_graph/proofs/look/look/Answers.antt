use Rattle.std.proofs.Common.{◌≡◌, Bool, Some, sym, ap, subst, ◌∙◌, rules}
use Rattle.commit_graph.specs.Looks.{Reads}
use Rattle.commit_graph.specs.Objects.{shown}
use Rattle.commit_graph.specs.Pairs.{Accepts}
use Rattle.commit_graph.proofs.PairSteps.{read_fit}
use Rattle.commit_graph.proofs.look.look.Goals as goal

pub returns-then-branch-clause-told : goal.returns-then-branch-clause-told
returns-then-branch-clause-told g c = λ m e.
    let there : m c.args.pair.oid ≡ Some (c.in-Ok-Some.kind, c.in-Ok-Some.bytes.now) = sym (c.in-Ok-Some.ensures.found m e) ∙ ap shown c.in-Ok-Some.field-0-is in
    let expected : Accepts c.args.pair.kind c.in-Ok-Some.kind = search rules in
    read_fit m c.args.pair c.in-Ok-Some.kind c.in-Ok-Some.bytes.now there expected
    (subst (λ (formed : Bool). Reads c.in-Ok-Some.kind c.in-Ok-Some.bytes.now c.read.new.links.items formed) c.if-branch.true c.in_ok-read-in-Ok-Some.ensures.read)
    c.deref.ensures.value
