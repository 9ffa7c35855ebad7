use Rattle.std.proofs.Common.{◌≡◌, sym, subst, ◌∙◌}
use Rattle.std.specs.Prelude.{IsTrue, ◌↔◌}
use Rattle.identity_doc.specs.Documents.{Sees}
use Rattle.identity_doc.specs.declared.doc.Doc.{Doc}
use Rattle.identity_doc.proofs.OneIdentity.{one_identity}
use Rattle.identity_doc.proofs.NotRefused.{not_refused}
use Rattle.fetch_serve.proofs.Replying.{not_unseen}
use Rattle.fetch_serve.proofs.reply.is_seen.Goals as goal

pub returns-in-Ok-clause-told : goal.returns-in-Ok-clause-told
returns-in-Ok-clause-told g c = λ m e doc identity.
    let same : c.in-Ok.doc ≡ doc = one_identity m c.args.keyring.now c.args.rid.now c.args.id.now c.in-Ok.doc doc (c.in-Ok.ensures.told m e) identity in
    subst (λ (d : Doc). IsTrue c.sees.result ↔ Sees d c.args.asker.now) same c.sees.ensures

pub returns-in-None-clause-told : goal.returns-in-None-clause-told
returns-in-None-clause-told g c = λ m e doc identity.
    absurd (not_unseen c.in-Err.fault (not_refused m c.args.keyring.now c.args.rid.now c.args.id.now doc c.in-Err.fault identity (c.in-Err.ensures.refused m e))
    (sym c.fault_in.ensures ∙ c.in-None.is))
