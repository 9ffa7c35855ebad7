use Rattle.std.proofs.Common.{sym, ◌∙◌}
use Rattle.signed_refs.proofs.Told.{blob_is, entry_is, no_entry, told_accepted, told_refused}
use Rattle.signed_refs.proofs.accepting.accepted_refs.Goals as goal

pub returns-in_default-2-clause-refused : goal.returns-in_default-2-clause-refused
returns-in_default-2-clause-refused g c = λ m e found has.
    no_entry m c.args.commit.now _ found.text c.in_ok-oid.field-0 (c.in_ok-oid.ensures.told m (c.in_ok-sig.ensures.keeps.content ∙ e)) c.in_default-2.is has.refs

pub returns-in-Some-blob_in-clause-told : goal.returns-in-Some-blob_in-clause-told
returns-in-Some-blob_in-clause-told g c = λ m e.
    let later = c.in_ok-sig.ensures.keeps.content ∙ e in
    let there = sym (c.in-Ok.ensures.found m (c.in_ok-oid.ensures.keeps.content ∙ later)) ∙ c.in-Some-blob_in.ensures.found in
    let bytes = c.in-Some-blob_in.bytes.now in
    let blob = blob_is m c.args.commit.now _ bytes c.in_ok-oid.field-0 c.in-Some-2.oid (c.in_ok-oid.ensures.told m later) c.in-Some-2.is there in
    told_accepted m c.args.keyring.now c.args.node.now c.args.commit.now c.in_ok-sig.field-0 c.in-Some.sig bytes c.accepted_text.result
    (c.in_ok-sig.ensures.told m e) c.in-Some.is blob c.accepted_text.ensures.read c.accepted_text.ensures.accepted

pub returns-in-Some-blob_in-clause-refused : goal.returns-in-Some-blob_in-clause-refused
returns-in-Some-blob_in-clause-refused g c = λ m e.
    let later = c.in_ok-sig.ensures.keeps.content ∙ e in
    let there = sym (c.in-Ok.ensures.found m (c.in_ok-oid.ensures.keeps.content ∙ later)) ∙ c.in-Some-blob_in.ensures.found in
    let bytes = c.in-Some-blob_in.bytes.now in
    let blob = blob_is m c.args.commit.now _ bytes c.in_ok-oid.field-0 c.in-Some-2.oid (c.in_ok-oid.ensures.told m later) c.in-Some-2.is there in
    told_refused m c.args.keyring.now c.args.node.now c.args.commit.now c.in_ok-sig.field-0 c.in-Some.sig bytes c.accepted_text.result
    (c.in_ok-sig.ensures.told m e) c.in-Some.is blob c.accepted_text.ensures.refused

pub returns-in-None-clause-refused : goal.returns-in-None-clause-refused
returns-in-None-clause-refused g c = λ m e found has.
    let later = c.in_ok-sig.ensures.keeps.content ∙ e in
    let there = entry_is m c.args.commit.now _ found.text c.in_ok-oid.field-0 c.in-Some-2.oid (c.in_ok-oid.ensures.told m later) c.in-Some-2.is has.refs in
    c.in-None.ensures.none found.text (c.in-Ok.ensures.found m (c.in_ok-oid.ensures.keeps.content ∙ later) ∙ there)
