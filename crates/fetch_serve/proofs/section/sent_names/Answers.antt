use Rattle.std.proofs.Common.{List, subst, ◌∙◌}
use Rattle.rad_base.specs.declared.names.Oid.{Oid}
use Rattle.commit_graph.specs.declared.root.Root.{Root}
use Rattle.fetch_serve.specs.Parts.{Adds, AreBeyond}
use Rattle.fetch_serve.specs.Replies.{Among, IsAskedRoot, StandsFor, haves_of}
use Rattle.fetch_serve.specs.Showings.{showing}
use Rattle.fetch_serve.proofs.Sent.{sent_as}
use Rattle.fetch_serve.proofs.section.sent_names.Goals as goal

pub returns-clause-told : goal.returns-clause-told
returns-clause-told g c = λ m e.
    let later = c.in_ok-add_asked.ensures.keeps.content ∙ e in
    let request = c.args.request.now in
    let shown = showing m c.args.id.now c.args.remotes.now in
    let names = c.in_ok-names.names.items in
    sent_as shown request c.add_asked.new.roots.items c.add_haves.new.roots.items names
    (subst (λ (xs : List Root). Adds (IsAskedRoot shown request) xs c.add_asked.new.roots.items) c.new-asked.ensures.items (c.in_ok-add_asked.ensures.told m e))
    (subst (λ (xs : List Root). Adds (Among (haves_of request) (StandsFor m)) xs c.add_haves.new.roots.items) c.new-had.ensures.items
    (subst (λ (hs : List Oid). Adds (Among hs (StandsFor m)) c.new-had.result.items c.add_haves.new.roots.items) c.haves_of.ensures (c.in_ok-add_haves.ensures.told m later)))
    (subst (λ (xs : List Root). AreBeyond m c.add_asked.new.roots.items xs names) c.deref-2.ensures.value
    (subst (λ (xs : List Root). AreBeyond m xs c.deref-2.result.now names) c.deref.ensures.value (c.in_ok-names.ensures.told m (c.in_ok-add_haves.ensures.keeps.content ∙ later))))
