use Rattle.std.proofs.Common.{rules, ◌≡◌, [], ap, ◌∙◌}
use Rattle.std.specs.Prelude.{codes}
use Rattle.git_object.specs.declared.mode.Mode.TheVariants.{Directory, File}
use Rattle.fetch_wire.specs.Sections.{Object}
use Rattle.rad_vectors.specs.Objects.{blob, commit}
use Rattle.rad_vectors.specs.Repositories.{embeds_tree, identity_commit}
use Rattle.rad_vectors.specs.Shown.{shown}
use Rattle.rad_vectors.proofs.MoreObjects.{name_of_shown, tree_named}
use Rattle.rad_vectors.proofs.identity.identity_of.Goals as goal

pub returns-clause-commit : goal.returns-clause-commit
returns-clause-commit c =
    let document : shown c.of-blob.result ≡ blob c.args.document.now = search rules in
    let embeds = tree_named c.of-blob.result c.in_ok-embeds.embeds File (codes "radicle.json") (blob c.args.document.now) c.in_ok-embeds.ensures document in
    let tree = tree_named c.in_ok-embeds.embeds c.in_ok-tree.tree Directory (codes "embeds") (embeds_tree c.args.document.now) c.in_ok-tree.ensures embeds in
    name_of_shown c.in_ok-made.made (identity_commit c.args.document.now) (c.in_ok-made.ensures ∙ ap (λ (o : Object). commit o [] (codes "id")) tree)
