use Rattle.std.proofs.Common.{length}
use Rattle.identity_doc.specs.SignatureReaders.{HasReadSignatures}
use Rattle.identity_doc.proofs.signatures.read_signatures.Given as goal

abbrev pub invariant-reading : goal.invariant-reading
invariant-reading l = HasReadSignatures l.bytes l.rest l.lines.items

abbrev pub decreases-reading : goal.decreases-reading
decreases-reading l = length l.rest
