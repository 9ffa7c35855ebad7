-- The signatures beside an identity document: lines of a key and its signature.
use Rattle.std.specs.Prelude.{◌≡◌, ℕ, ◌+◌, List, [], ◌∷◌, ◌++◌, length}
use Rattle.std.specs.List.{All}
use Rattle.hex.specs.Hex.{encode_lower}
use Rattle.rad_base.specs.Order.{RisesBy, nid_cmp}
use Rattle.rad_base.specs.declared.names.Nid.{Nid}
use Rattle.rad_base.specs.Sizes.{IsNid, IsSig}
use Rattle.identity_doc.specs.declared.signatures.SignatureLine.{SignatureLine}

-- a key and a signature of their sizes
pub record IsSignatureLine (line : SignatureLine) : Type 0 where
  pub key : IsNid line.key
  pub sig : IsSig line.sig

-- a line as the blob has it, without its line feed
abbrev pub signature_line_text : SignatureLine → List ℕ
signature_line_text line = encode_lower line.key.0 ++ 32 ∷ encode_lower line.sig.0

-- the lines of a blob, each ended by a line feed
abbrev pub lines_text : List SignatureLine → List ℕ
lines_text [] = []
lines_text (line ∷ lines) = signature_line_text line ++ 10 ∷ lines_text lines

-- the key of a line
abbrev pub key_in : SignatureLine → Nid
key_in line = line.key

-- each key is below the next
abbrev pub AreRisingKeys : List SignatureLine → Type 0
AreRisingKeys lines = RisesBy key_in nid_cmp lines

-- lines that make a blob
pub record AreSignatureLines (lines : List SignatureLine) : Type 0 where
  pub formed : All IsSignatureLine lines
  pub rising : AreRisingKeys lines

-- the bytes are these lines, which make a blob
pub record AreSignatures (bytes : List ℕ) (lines : List SignatureLine) : Type 0 where
  pub good : AreSignatureLines lines
  pub text : bytes ≡ lines_text lines

-- the bytes begin with this line and its line feed, and the rest follows
pub record BeginsWithSignature (line : SignatureLine) (rest bytes : List ℕ) : Type 0 where
  pub good : IsSignatureLine line
  pub text : bytes ≡ signature_line_text line ++ 10 ∷ rest

-- line n, counted from 1, is the first that breaks the grammar: bytes follow the lines before it,
-- and they begin with no line that these may have behind them
pub record BreaksSignaturesAt (n : ℕ) (bytes : List ℕ) : Type 0 where
  pub before : List SignatureLine
  pub rest : List ℕ
  pub good : AreSignatureLines before
  pub text : bytes ≡ lines_text before ++ rest
  pub more : rest ≡ [] → ⊥
  pub broken : (line : SignatureLine) (behind : List ℕ) → BeginsWithSignature line behind rest → AreSignatureLines (before ++ line ∷ []) → ⊥
  pub count : n ≡ length before + 1
