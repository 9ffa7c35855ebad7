use Rattle.std.proofs.Common.{refl, inl}
use Rattle.identity_doc.proofs.blobs.signatures_at.Goals as goal

pub returns-in_default-clause-refused : goal.returns-in_default-clause-refused
returns-in_default-clause-refused g c = λ m e keyring parent before some. (
  refl,
  some,
  inl (refl, λ bytes has. (rw c.in_default.is at (c.in_ok-blob.ensures.told m e)) has.blob has.named),
)
