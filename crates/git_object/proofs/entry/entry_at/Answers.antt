use Rattle.git_object.proofs.EntryTexts.{no_entry}
use Rattle.rad_base.proofs.OneFront.{if_none}
use Rattle.git_object.proofs.entry.entry_at.Goals as goal

pub returns-in_err-oid-clause-none : goal.returns-in_err-oid-clause-none
returns-in_err-oid-clause-none c =
    let name = c.in_ok-name.ensures.found in
    if_none c.from_residual-in_err-oid.result _
    (no_entry c.args.bytes.now c.in_ok-mode.mode c.in_ok-mode.rest.now c.in_ok-name.name.now c.in_ok-name.rest.now
    c.in_ok-mode.ensures.found name.0 name.1 c.in_err-oid.ensures.none)
