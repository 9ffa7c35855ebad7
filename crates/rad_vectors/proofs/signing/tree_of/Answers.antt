use Rattle.std.proofs.Common.{ℕ, ◌++◌, List, ap, ◌∙◌}
use Rattle.std.specs.Prelude.{codes}
use Rattle.git_object.specs.Grammar.{entry_text}
use Rattle.git_object.specs.declared.kind.Kind.TheVariants.{Tree}
use Rattle.git_object.specs.declared.mode.Mode.TheVariants.{File}
use Rattle.rad_vectors.specs.Objects.{entry}
use Rattle.rad_vectors.proofs.MoreObjects.{two_entries}
use Rattle.rad_vectors.proofs.signing.tree_of.Goals as goal

pub returns : goal.returns
returns c = c.of.ensures ∙ ap (λ (xs : List ℕ). (Tree, xs))
    (two_entries (entry File (codes "refs") c.args.refs.now) (entry File (codes "signature") c.args.signature.now) c.push_entry-2.new.bytes.items
    (c.in_ok-push_entry-2.ensures.text ∙ ap (λ (xs : List ℕ). xs ++ entry_text (entry File (codes "signature") c.args.signature.now))
    (c.in_ok-push_entry.ensures.text ∙ ap (λ (xs : List ℕ). xs ++ entry_text (entry File (codes "refs") c.args.refs.now)) c.new-content.ensures.items)))
