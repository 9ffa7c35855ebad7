use Rattle.std.proofs.Common.{Some, sym, ap, ◌∙◌}
use Rattle.git_object.specs.declared.kind.Kind.{Kind}
use Rattle.commit_graph.specs.Objects.{shown}
use Rattle.tree_entry.proofs.Through.{through_tree}
use Rattle.tree_entry.proofs.entries.find_entry.Goals as goal

pub returns-in-Ok-Some-Tree-default-clause-told : goal.returns-in-Ok-Some-Tree-default-clause-told
returns-in-Ok-Some-Tree-default-clause-told g c = λ m e.
    through_tree m c.args.tree.now c.args.kind c.args.name.now c.in-Ok-Some-Tree-default.bytes.now c.entry_in.result
    (sym (c.in-Ok-Some-Tree-default.ensures.found m e) ∙ ap shown c.in-Ok-Some-Tree-default.field-0-is
    ∙ ap (λ (kind : Kind). Some (kind, c.in-Ok-Some-Tree-default.bytes.now)) c.in-Ok-Some-Tree-default.field-0-0-0-is)
    c.entry_in.ensures
