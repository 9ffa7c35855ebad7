use Rattle.rad_base.proofs.OneFront.{if_none}
use Rattle.keyring.proofs.LineFronts.{ReadKey, ReadDigest, no_accept_digest, no_accept_end, no_accept_sig}
use Rattle.keyring.proofs.line.accept_front.Goals as goal

pub returns-in_err-digest-clause-none : goal.returns-in_err-digest-clause-none
returns-in_err-digest-clause-none c =
    let key = c.in_ok-key.ensures.found in
    let read : ReadKey c.args.bytes.now c.in_ok-key.rest.now =
    record { more = c.in_ok-rest.rest.now; word = c.in_ok-rest.ensures.found; key = c.in_ok-key.key; is_key = key.0; split = key.1 } in
    if_none c.from_residual-in_err-digest.result _ (no_accept_digest c.args.bytes.now c.in_ok-key.rest.now read c.in_err-digest.ensures.none)

pub returns-in_err-sig-clause-none : goal.returns-in_err-sig-clause-none
returns-in_err-sig-clause-none c =
    let key = c.in_ok-key.ensures.found in
    let digest = c.in_ok-digest.ensures.found in
    let read : ReadDigest c.args.bytes.now c.in_ok-digest.rest.now = record {
      behind_key = c.in_ok-key.rest.now;
      before = record { more = c.in_ok-rest.rest.now; word = c.in_ok-rest.ensures.found; key = c.in_ok-key.key; is_key = key.0; split = key.1 };
      digest = c.in_ok-digest.digest;
      is_digest = digest.0;
      split = digest.1;
    } in
    if_none c.from_residual-in_err-sig.result _ (no_accept_sig c.args.bytes.now c.in_ok-digest.rest.now read c.in_err-sig.ensures.none)

pub returns-in_err-rest-2-clause-none : goal.returns-in_err-rest-2-clause-none
returns-in_err-rest-2-clause-none c =
    let key = c.in_ok-key.ensures.found in
    let digest = c.in_ok-digest.ensures.found in
    let sig = c.in_ok-sig.ensures.found in
    let read : ReadDigest c.args.bytes.now c.in_ok-digest.rest.now = record {
      behind_key = c.in_ok-key.rest.now;
      before = record { more = c.in_ok-rest.rest.now; word = c.in_ok-rest.ensures.found; key = c.in_ok-key.key; is_key = key.0; split = key.1 };
      digest = c.in_ok-digest.digest;
      is_digest = digest.0;
      split = digest.1;
    } in
    if_none c.from_residual-in_err-rest-2.result _
    (no_accept_end c.args.bytes.now c.in_ok-digest.rest.now c.in_ok-sig.sig c.in_ok-sig.rest.now read sig.0 sig.1 c.in_err-rest-2.ensures.none)
