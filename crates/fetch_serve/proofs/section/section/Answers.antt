use Rattle.std.proofs.Common.{ℕ, List, ◌++◌, sym, ap, subst, ◌∙◌}
use Rattle.rad_base.specs.declared.names.Oid.{Oid}
use Rattle.fetch_wire.specs.Sections.{part_text}
use Rattle.fetch_serve.specs.Parts.{AllThere, WritesObjects}
use Rattle.fetch_serve.specs.Replies.{head_of}
use Rattle.fetch_serve.specs.Showings.{showing}
use Rattle.fetch_serve.proofs.SectionTexts.{is_section}
use Rattle.fetch_serve.proofs.Sent.{sent_there}
use Rattle.fetch_serve.proofs.section.section.Goals as goal

pub returns-clause-told : goal.returns-clause-told
returns-clause-told g c = λ m e keyring rid good.
    let request = c.args.request.now in
    let shown = showing m c.args.id.now c.args.remotes.now in
    let names = c.in_ok-names.names.items in
    let sent = c.in_ok-names.ensures.told m e in
    let head = c.push_head.new.bytes.items in
    let body = c.push_objects.new.bytes.items in
    let same = c.deref.ensures.value in
    let there = subst (λ (ns : List Oid). AllThere m ns) (sym same) (sent_there shown keyring rid request names good sent) in
    is_section shown request names head body c.extend_from_slice.new.self.items sent
    (c.in_ok-push_head.ensures m ∙ ap (λ (xs : List ℕ). xs ++ part_text (head_of shown request)) c.new-bytes.ensures.items)
    (subst (λ (ns : List Oid). WritesObjects m ns head body) same (c.in_ok-push_objects.ensures.told m (c.in_ok-names.ensures.keeps.content ∙ e) good.short there))
    c.in_ok-extend_from_slice.ensures.items
