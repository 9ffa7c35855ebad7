use Rattle.std.proofs.Common.{sym, ◌∙◌}
use Rattle.signed_refs.proofs.Told.{blob_is, entry_is, no_entry, signature_is}
use Rattle.signed_refs.proofs.blobs.signature.Goals as goal

pub returns-in_default-clause-told : goal.returns-in_default-clause-told
returns-in_default-clause-told g c = λ m e sig has.
    no_entry m c.args.commit.now _ sig.0 c.in_ok-oid.field-0 (c.in_ok-oid.ensures.told m e) c.in_default.is has.1

pub returns-in-Some-blob_in-clause-told : goal.returns-in-Some-blob_in-clause-told
returns-in-Some-blob_in-clause-told g c = λ m e.
    let there = sym (c.in-Ok.ensures.found m (c.in_ok-oid.ensures.keeps.content ∙ e)) ∙ c.in-Some-blob_in.ensures.found in
    signature_is m c.args.commit.now c.in-Some-blob_in.bytes.now c.signature_in.result
    (blob_is m c.args.commit.now _ c.in-Some-blob_in.bytes.now c.in_ok-oid.field-0 c.in-Some.oid (c.in_ok-oid.ensures.told m e) c.in-Some.is there)
    c.signature_in.ensures.found c.signature_in.ensures.none

pub returns-in-None-clause-told : goal.returns-in-None-clause-told
returns-in-None-clause-told g c = λ m e sig has.
    let there = entry_is m c.args.commit.now _ sig.0 c.in_ok-oid.field-0 c.in-Some.oid (c.in_ok-oid.ensures.told m e) c.in-Some.is has.1 in
    c.in-None.ensures.none sig.0 (c.in-Ok.ensures.found m (c.in_ok-oid.ensures.keeps.content ∙ e) ∙ there)
