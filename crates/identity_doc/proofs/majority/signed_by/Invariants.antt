use Rattle.std.proofs.Common.{◌≡◌, take}
use Rattle.identity_doc.specs.Majorities.{signed_by}
use Rattle.identity_doc.proofs.majority.signed_by.Given as goal

abbrev pub invariant-loop-delegate : goal.invariant-loop-delegate
invariant-loop-delegate l = l.count ≡ signed_by l.keyring l.message l.lines (take l.delegate-index l.delegates)
