use Rattle.rad_base.proofs.OneFront.{if_none}
use Rattle.identity_doc.proofs.SignatureFronts.{ReadKey, no_feed, no_sig, no_space}
use Rattle.identity_doc.proofs.signatures.line_in_front.Goals as goal

pub returns-in_err-rest-clause-none : goal.returns-in_err-rest-clause-none
returns-in_err-rest-clause-none c =
    let key = c.in_ok-key.ensures.found in
    let read : ReadKey c.args.bytes.now c.in_ok-key.rest.now = record { key = c.in_ok-key.key; is_key = key.0; split = key.1 } in
    if_none c.from_residual-in_err-rest.result _ (no_space c.args.bytes.now c.in_ok-key.rest.now read c.in_err-rest.ensures.none)

pub returns-in_err-sig-clause-none : goal.returns-in_err-sig-clause-none
returns-in_err-sig-clause-none c =
    let key = c.in_ok-key.ensures.found in
    let read : ReadKey c.args.bytes.now c.in_ok-key.rest.now = record { key = c.in_ok-key.key; is_key = key.0; split = key.1 } in
    if_none c.from_residual-in_err-sig.result _
    (no_sig c.args.bytes.now c.in_ok-key.rest.now c.in_ok-rest.rest.now read c.in_ok-rest.ensures.found c.in_err-sig.ensures.none)

pub returns-in_err-rest-2-clause-none : goal.returns-in_err-rest-2-clause-none
returns-in_err-rest-2-clause-none c =
    let key = c.in_ok-key.ensures.found in
    let sig = c.in_ok-sig.ensures.found in
    let read : ReadKey c.args.bytes.now c.in_ok-key.rest.now = record { key = c.in_ok-key.key; is_key = key.0; split = key.1 } in
    if_none c.from_residual-in_err-rest-2.result _
    (no_feed c.args.bytes.now c.in_ok-key.rest.now c.in_ok-rest.rest.now c.in_ok-sig.sig c.in_ok-sig.rest.now read c.in_ok-rest.ensures.found sig.0 sig.1
    c.in_err-rest-2.ensures.none)
