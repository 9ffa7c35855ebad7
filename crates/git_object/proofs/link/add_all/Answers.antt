use Rattle.std.proofs.Common.{List, ◌++◌, sym, ap, ◌∙◌}
use Rattle.std.proofs.lemmas.List.{append-nil}
use Rattle.git_object.specs.Links.{links}
use Rattle.git_object.specs.declared.kind.Kind.{Kind}
use Rattle.git_object.specs.declared.link.LinkTo.{LinkTo}
use Rattle.git_object.proofs.SpellingLaws.{blob_links_are}
use Rattle.git_object.proofs.link.add_all.Goals as goal

pub returns-in-Blob-clause-added : goal.returns-in-Blob-clause-added
returns-in-Blob-clause-added c =
    let found : List LinkTo = c.args.found.now.items in
    sym (ap (λ (kind : Kind). found ++ links kind c.args.bytes.now) c.in-Blob.is ∙ ap (λ (l : List LinkTo). found ++ l) (blob_links_are c.args.bytes.now) ∙ append-nil found)
