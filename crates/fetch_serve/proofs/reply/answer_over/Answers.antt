use Rattle.std.proofs.Common.{List, sym, ap, ◌∙◌, inl, inr}
use Rattle.rad_base.specs.declared.names.Nid.{Nid}
use Rattle.fetch_serve.specs.Replies.{lacks}
use Rattle.fetch_serve.specs.Showings.{showing}
use Rattle.fetch_serve.proofs.Replying.{seen, unseen}
use Rattle.fetch_serve.proofs.reply.answer_over.Goals as goal

pub returns-then-not-is_seen-clause-told : goal.returns-then-not-is_seen-clause-told
returns-then-not-is_seen-clause-told g c = λ m e good.
    let asked = sym c.rid_of.ensures ∙ c.in-Some.is in
    let is = good c.in-Some.rid asked in
    inl (
      unseen (showing m c.args.id.now c.args.remotes.now) c.args.keyring.now c.args.request.now c.args.asker.now c.in-Some.rid c.in_ok-is_seen.is_seen asked is
          (c.in_ok-is_seen.ensures.told m e is.doc is.identity) c.if-not-is_seen.true,
      c.in_ok-hidden.ensures,
    )

pub returns-then-lacks-clause-told : goal.returns-then-lacks-clause-told
returns-then-lacks-clause-told g c = λ m e good.
    let asked = sym c.rid_of.ensures ∙ c.in-Some.is in
    let is = good c.in-Some.rid asked in
    inr (inl (
      seen (showing m c.args.id.now c.args.remotes.now) c.args.keyring.now c.args.request.now c.args.asker.now c.in-Some.rid c.in_ok-is_seen.is_seen asked is
          (c.in_ok-is_seen.ensures.told m e is.doc is.identity) c.if-not-is_seen.false,
      sym (ap (λ (ns : List Nid). lacks c.args.remotes.now ns) c.nodes_of.ensures) ∙ (sym c.lacks.ensures ∙ c.if-lacks.true),
      c.in_ok-refusal-2.ensures,
    ))

pub returns-clause-told : goal.returns-clause-told
returns-clause-told g c = λ m e good.
    let asked = sym c.rid_of.ensures ∙ c.in-Some.is in
    let is = good c.in-Some.rid asked in
    inr (inr (
      seen (showing m c.args.id.now c.args.remotes.now) c.args.keyring.now c.args.request.now c.args.asker.now c.in-Some.rid c.in_ok-is_seen.is_seen asked is
          (c.in_ok-is_seen.ensures.told m e is.doc is.identity) c.if-not-is_seen.false,
      sym (ap (λ (ns : List Nid). lacks c.args.remotes.now ns) c.nodes_of.ensures) ∙ (sym c.lacks.ensures ∙ c.if-lacks.false),
      c.in_ok-bytes.ensures.told m (c.in_ok-is_seen.ensures.keeps.content ∙ e) c.args.keyring.now c.in-Some.rid is,
    ))
