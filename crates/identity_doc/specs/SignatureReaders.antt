-- What the readers of signatures answer.
use Rattle.std.specs.Prelude.{◌≡◌, ℕ, List, ◌++◌}
use Rattle.rad_base.specs.declared.names.Nid.{Nid}
use Rattle.rad_base.specs.Order.{IsAboveBy, nid_cmp}
use Rattle.identity_doc.specs.Signatures.{AreSignatureLines, BreaksSignaturesAt, key_in, lines_text}
use Rattle.identity_doc.specs.declared.signatures.SignatureLine.{SignatureLine}
use Rattle.identity_doc.specs.declared.signatures.SignaturesFault.{SignaturesFault}
use Rattle.identity_doc.specs.declared.signatures.SignaturesFault.TheVariants.{BadLine, NoMemory}

-- the key is above that of the last line, if there is one
abbrev pub KeyMayFollow : List SignatureLine → Nid → Type 0
KeyMayFollow lines key = IsAboveBy key_in nid_cmp lines key

-- lines were read, and the rest follows
pub record HasReadSignatures (bytes rest : List ℕ) (lines : List SignatureLine) : Type 0 where
  pub good : AreSignatureLines lines
  pub text : bytes ≡ lines_text lines ++ rest

-- why the signatures were not read: this line is the first broken one, or memory was refused
abbrev pub ExplainsSignatures : List ℕ → SignaturesFault → Type 0
ExplainsSignatures bytes (BadLine n) = BreaksSignaturesAt n bytes
ExplainsSignatures bytes NoMemory = Unit {0}
