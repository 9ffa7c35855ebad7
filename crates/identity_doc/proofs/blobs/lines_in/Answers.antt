use Rattle.std.proofs.Common.{ℕ, List, rules}
use Rattle.identity_doc.specs.IdentityChains.{IsBlob}
use Rattle.identity_doc.specs.Signatures.{BreaksSignaturesAt}
use Rattle.identity_doc.proofs.IdentitySteps.{broken_line, lacks_lines}
use Rattle.identity_doc.proofs.blobs.lines_in.Goals as goal

pub returns-in-Err-BadLine-clause-refused : goal.returns-in-Err-BadLine-clause-refused
returns-in-Err-BadLine-clause-refused g c = λ m e.
    let bytes = c.in-Some-Blob-default.bytes.now in
    let there : IsBlob m c.args.blob.now bytes = search rules in
    let breaks : BreaksSignaturesAt c.in-Err-BadLine.line bytes = search rules in
    broken_line m c.args.commit c.args.blob.now (c.requires m e) bytes c.in-Err-BadLine.line there breaks

pub returns-in_default-clause-refused : goal.returns-in_default-clause-refused
returns-in_default-clause-refused g c = λ m e.
    let none : (bytes : List ℕ) → IsBlob m c.args.blob.now bytes → ⊥ = search rules in
    lacks_lines m c.args.commit c.args.blob.now (c.requires m e) none
