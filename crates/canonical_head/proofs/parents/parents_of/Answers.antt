use Rattle.std.proofs.Common.{◌≡◌, Some, sym, ap, ◌∙◌}
use Rattle.git_object.specs.declared.kind.Kind.{Kind}
use Rattle.git_object.specs.declared.kind.Kind.TheVariants.{Commit}
use Rattle.commit_graph.specs.Objects.{shown}
use Rattle.canonical_head.proofs.AncestryWalks.{parents_read}
use Rattle.canonical_head.proofs.Candidates.{if_ok}
use Rattle.canonical_head.proofs.parents.parents_of.Goals as goal

pub returns-in-Ok-Some-Commit-default-clause-told : goal.returns-in-Ok-Some-Commit-default-clause-told
returns-in-Ok-Some-Commit-default-clause-told g c = λ m e.
    let bytes = c.in-Ok-Some-Commit-default.bytes.now in
    let there : m c.args.oid.now ≡ Some (Commit, bytes) =
    sym (c.in-Ok-Some-Commit-default.ensures.found m e) ∙ ap shown c.in-Ok-Some-Commit-default.field-0-is
    ∙ ap (λ (kind : Kind). Some (kind, bytes)) c.in-Ok-Some-Commit-default.field-0-0-0-is in
    if_ok c.read.result c.read.ensures.read (λ parents h. parents_read m c.args.oid.now bytes parents.items there h)
