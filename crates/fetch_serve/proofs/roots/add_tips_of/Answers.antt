use Rattle.std.proofs.Common.{◌≡◌, sym, subst, ◌∙◌}
use Rattle.rad_base.specs.declared.names.Oid.{Oid}
use Rattle.fetch_serve.specs.Good.{line_root}
use Rattle.fetch_serve.specs.Replies.{IsTipsRoot}
use Rattle.fetch_serve.specs.Showings.{showing}
use Rattle.fetch_serve.proofs.Adding.{adds_as, adds_none}
use Rattle.rad_base.proofs.Options.{one_value}
use Rattle.signed_refs.specs.Said.{Says}
use Rattle.fetch_serve.specs.Replies.{Among}
use Rattle.fetch_serve.proofs.Standing.{tips_iff}
use Rattle.fetch_serve.proofs.roots.add_tips_of.Goals as goal

pub returns-in_default-2-clause-told : goal.returns-in_default-2-clause-told
returns-in_default-2-clause-told g c = λ m e id.
    adds_none (IsTipsRoot (showing m id c.args.remotes.now) c.args.node.now) c.args.roots.now.items
    (λ r h.
    let same : h.0 ≡ c.in-Some.commit = one_value h.1 (sym c.get.ensures ∙ c.in-Some.is) in
    (rw c.in_default-2.is at (c.in_ok-refs.ensures.told m e)) h.2.0 (subst (λ (x : Oid). Says m x h.2.0) same h.2.1))

pub returns-clause-told : goal.returns-clause-told
returns-clause-told g c = λ m e id.
    adds_as (λ r. Among c.in-Some-2.refs (λ line x. x ≡ line_root line) r) (IsTipsRoot (showing m id c.args.remotes.now) c.args.node.now) c.args.roots.now.items c.add_names.new.roots.items
    (tips_iff m id c.args.remotes.now c.args.node.now c.in-Some.commit c.in-Some-2.refs (sym c.get.ensures ∙ c.in-Some.is) (rw c.in-Some-2.is at (c.in_ok-refs.ensures.told m e)))
    c.in_ok-add_names.ensures
