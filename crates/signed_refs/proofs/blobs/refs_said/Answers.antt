use Rattle.std.proofs.Common.{sym, ◌∙◌}
use Rattle.signed_refs.proofs.Told.{blob_is, entry_is, no_entry}
use Rattle.signed_refs.proofs.Saying.{said_in}
use Rattle.signed_refs.proofs.blobs.refs_said.Goals as goal

pub returns-in_default-clause-told : goal.returns-in_default-clause-told
returns-in_default-clause-told g c = λ m e refs says.
    no_entry m c.args.commit.now _ says.0 c.in_ok-oid.field-0 (c.in_ok-oid.ensures.told m e) c.in_default.is says.1

pub returns-in-Some-blob_in-clause-told : goal.returns-in-Some-blob_in-clause-told
returns-in-Some-blob_in-clause-told g c = λ m e.
    let there = sym (c.in-Ok.ensures.found m (c.in_ok-oid.ensures.keeps.content ∙ e)) ∙ c.in-Some-blob_in.ensures.found in
    said_in m c.args.commit.now c.in-Some-blob_in.bytes.now c.refs_in.result
    (blob_is m c.args.commit.now _ c.in-Some-blob_in.bytes.now c.in_ok-oid.field-0 c.in-Some.oid (c.in_ok-oid.ensures.told m e) c.in-Some.is there)
    c.refs_in.ensures.read

pub returns-in-None-clause-told : goal.returns-in-None-clause-told
returns-in-None-clause-told g c = λ m e refs says.
    let there = entry_is m c.args.commit.now _ says.0 c.in_ok-oid.field-0 c.in-Some.oid (c.in_ok-oid.ensures.told m e) c.in-Some.is says.1 in
    c.in-None.ensures.none says.0 (c.in-Ok.ensures.found m (c.in_ok-oid.ensures.keeps.content ∙ e) ∙ there)
