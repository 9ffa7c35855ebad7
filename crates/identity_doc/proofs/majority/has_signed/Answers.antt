use Rattle.std.proofs.Common.{[], rules, sym, ◌∙◌}
use Rattle.std.proofs.lemmas.List.Sorted.{answers_always}
use Rattle.keyring.specs.Contents.{accepts}
use Rattle.identity_doc.specs.declared.signatures.SignatureLine.{SignatureLine}
use Rattle.identity_doc.proofs.SignatureOrder.{absent, alone}
use Rattle.identity_doc.proofs.majority.has_signed.Goals as goal

pub returns-in-Ok : goal.returns-in-Ok
returns-in-Ok c =
    let facts = c.binary_search_by_key.ensures in
    let by_key = facts.position (λ (line : SignatureLine). line.key) (answers_always _ _ _ (λ f a r g called. search rules)) in
    let none : SignatureLine = record { key = record { 0 = [] }; sig = record { 0 = [] } } in
    c.verdict.ensures
    ∙ sym (alone c.args.lines.now c.requires.rising (λ line. accepts c.args.keyring.now c.args.key.now c.args.message.now line.sig) c.args.key.now c.in-Ok.at none
    (rw c.in-Ok.is at facts.bound) (rw c.in-Ok.is at by_key none))

pub returns-in-Err : goal.returns-in-Err
returns-in-Err c =
    let facts = c.binary_search_by_key.ensures in
    let by_key = facts.position (λ (line : SignatureLine). line.key) (answers_always _ _ _ (λ f a r g called. search rules)) in
    sym (absent c.args.lines.now c.requires.rising (λ line. accepts c.args.keyring.now c.args.key.now c.args.message.now line.sig) c.args.key.now c.in-Err.field-0
    (rw c.in-Err.is at by_key))
