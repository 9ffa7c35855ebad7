use Rattle.std.proofs.Common.{List, subst}
use Rattle.rad_base.specs.declared.names.Nid.{Nid}
use Rattle.fetch_serve.specs.Parts.{Adds}
use Rattle.fetch_serve.specs.Replies.{Among, IsSigsRoot, IsTipsRoot}
use Rattle.fetch_serve.specs.Showings.{showing}
use Rattle.fetch_serve.proofs.Standing.{asked_sigs, asked_tips}
use Rattle.fetch_serve.proofs.roots.add_asked.Goals as goal

pub returns-in_ok-add_commits-in-Sigs-clause-told : goal.returns-in_ok-add_commits-in-Sigs-clause-told
returns-in_ok-add_commits-in-Sigs-clause-told g c = λ m e.
    let shown = showing m c.args.id.now c.args.remotes.now in
    asked_sigs shown c.args.request.now _ _ _ c.args.roots.now.items c.add_commits.new.roots.items c.in-Sigs.is
    (subst (λ (ns : List Nid). Adds (Among ns (IsSigsRoot shown)) c.args.roots.now.items c.add_commits.new.roots.items) c.as_slice.ensures
    (c.in_ok-add_commits-in-Sigs.ensures m c.args.id.now))

pub returns-in_ok-add_tips-in-Tips-clause-told : goal.returns-in_ok-add_tips-in-Tips-clause-told
returns-in_ok-add_tips-in-Tips-clause-told g c = λ m e.
    let shown = showing m c.args.id.now c.args.remotes.now in
    asked_tips shown c.args.request.now _ _ _ c.args.roots.now.items c.add_tips.new.roots.items c.in-Tips.is
    (subst (λ (ns : List Nid). Adds (Among ns (IsTipsRoot shown)) c.args.roots.now.items c.add_tips.new.roots.items) c.as_slice-in-Tips.ensures
    (c.in_ok-add_tips-in-Tips.ensures.told m e c.args.id.now))
