use Rattle.std.proofs.Common.{ℕ, List, rules}
use Rattle.identity_doc.specs.IdentityChains.{IsBlob}
use Rattle.identity_doc.proofs.IdentitySteps.{lacks_blob}
use Rattle.identity_doc.proofs.blobs.document_in.Goals as goal

pub returns-in_default-clause-refused : goal.returns-in_default-clause-refused
returns-in_default-clause-refused g c = λ m e.
    let none : (bytes : List ℕ) → IsBlob m c.args.blob.now bytes → ⊥ = search rules in
    lacks_blob m c.args.keyring.now c.args.commit c.args.blob.now (c.requires m e) none
