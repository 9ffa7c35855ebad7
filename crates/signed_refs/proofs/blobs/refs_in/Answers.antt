use Rattle.signed_refs.proofs.Compared.{not_broken, not_too_many}
use Rattle.signed_refs.proofs.blobs.refs_in.Goals as goal

pub returns-in-Err-BadLine-clause-read : goal.returns-in-Err-BadLine-clause-read
returns-in-Err-BadLine-clause-read c = λ refs spells.
    let h = c.in-Err-BadLine.ensures.refused in
    not_broken c.args.bytes.now refs c.in-Err-BadLine.field-0-0 spells (rw c.in-Err-BadLine.field-0-is at h)

pub returns-in-Err-TooMany-clause-read : goal.returns-in-Err-TooMany-clause-read
returns-in-Err-TooMany-clause-read c = λ refs spells.
    let h = c.in-Err-TooMany.ensures.refused in
    not_too_many c.args.bytes.now refs spells (rw c.in-Err-TooMany.field-0-is at h)
