use Rattle.std.proofs.Common.{◌∙◌}
use Rattle.tree_entry.proofs.Through.{no_directory, through_directory}
use Rattle.tree_entry.proofs.identity.embedded.Goals as goal

pub returns-in_default-clause-told : goal.returns-in_default-clause-told
returns-in_default-clause-told g c = λ m e blob h.
    no_directory m c.args.oid.now c.args.name.now c.in_ok-embeds.field-0 blob (c.in_ok-embeds.ensures.told m e) c.in_default.is h

pub returns-clause-told : goal.returns-clause-told
returns-clause-told g c = λ m e.
    through_directory m c.args.oid.now c.args.name.now c.in_ok-embeds.field-0 c.in-Some.embeds c.in_ok-blob.blob
    (c.in_ok-embeds.ensures.told m e) c.in-Some.is (c.in_ok-blob.ensures.told m (c.in_ok-embeds.ensures.keeps.content ∙ e))
