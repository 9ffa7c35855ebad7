-- Lines of signatures in front of bytes, which can be read in one way only.
use Rattle.std.proofs.Common.{◌≡◌, ℕ, List, [], ◌∷◌, ◌++◌, length, sym, ap, ◌∙◌, arith, append_assoc, length-append}
use Rattle.hex.specs.Hex.{encode_lower}
use Rattle.rad_base.specs.declared.names.Nid.{Nid}
use Rattle.rad_base.specs.declared.names.Sig.{Sig}
use Rattle.rad_base.specs.Sizes.{IsNid, IsSig}
use Rattle.rad_base.proofs.OneFront.{one_behind, one_nid_text, one_sig_text}
use Rattle.identity_doc.specs.declared.signatures.SignatureLine.{SignatureLine}
use Rattle.identity_doc.specs.Signatures.{BeginsWithSignature, signature_line_text}

-- the key, the space, the signature and the line feed
line_parts : (line : SignatureLine) (rest : List ℕ)
    → signature_line_text line ++ 10 ∷ rest ≡ encode_lower line.key.0 ++ 32 ∷ (encode_lower line.sig.0 ++ 10 ∷ rest)
line_parts line rest = simp append_assoc

-- a key was read, and what stands behind it
pub record ReadKey (bytes behind : List ℕ) : Type 0 where
  pub key : Nid
  pub is_key : IsNid key
  pub split : bytes ≡ encode_lower key.0 ++ behind

key_behind : (bytes behind : List ℕ) (r : ReadKey bytes behind) (line : SignatureLine) (rest : List ℕ) → BeginsWithSignature line rest bytes
    → (r.key ≡ line.key) × (behind ≡ 32 ∷ (encode_lower line.sig.0 ++ 10 ∷ rest))
key_behind bytes behind r line rest b = one_nid_text r.key line.key _ _ r.is_key b.good.key (sym r.split ∙ b.text ∙ line_parts line rest)

-- no line is in front where no space follows the key
pub no_space : (bytes behind : List ℕ) → ReadKey bytes behind → ((rest : List ℕ) → behind ≡ 32 ∷ rest → ⊥)
    → (line : SignatureLine) (rest : List ℕ) → BeginsWithSignature line rest bytes → ⊥
no_space bytes behind r none line rest b = none _ (key_behind bytes behind r line rest b).1

sig_behind : (bytes behind more : List ℕ) (r : ReadKey bytes behind) → behind ≡ 32 ∷ more → (line : SignatureLine) (rest : List ℕ)
    → BeginsWithSignature line rest bytes → more ≡ encode_lower line.sig.0 ++ 10 ∷ rest
sig_behind bytes behind more r e line rest b = one_behind 32 _ _ (sym e ∙ (key_behind bytes behind r line rest b).1)

-- nor where no signature follows the space
pub no_sig : (bytes behind more : List ℕ) → ReadKey bytes behind → behind ≡ 32 ∷ more
    → ((sig : Sig) (rest : List ℕ) → IsSig sig → more ≡ encode_lower sig.0 ++ rest → ⊥)
    → (line : SignatureLine) (rest : List ℕ) → BeginsWithSignature line rest bytes → ⊥
no_sig bytes behind more r e none line rest b = none line.sig _ b.good.sig (sig_behind bytes behind more r e line rest b)

-- nor where no line feed follows the signature
pub no_feed : (bytes behind more : List ℕ) (sig : Sig) (behind_sig : List ℕ) → ReadKey bytes behind → behind ≡ 32 ∷ more
    → IsSig sig → more ≡ encode_lower sig.0 ++ behind_sig → ((rest : List ℕ) → behind_sig ≡ 10 ∷ rest → ⊥)
    → (line : SignatureLine) (rest : List ℕ) → BeginsWithSignature line rest bytes → ⊥
no_feed bytes behind more sig behind_sig r e is f none line rest b =
    none rest (one_sig_text sig line.sig _ _ is b.good.sig (sym f ∙ sig_behind bytes behind more r e line rest b)).1

same_line : (a b : SignatureLine) → a.key ≡ b.key → a.sig ≡ b.sig → a ≡ b
same_line a b p q = λ i. record { key = p i; sig = q i }

-- two lines in front of the same bytes are one
pub one_line : (line other : SignatureLine) (rest more bytes : List ℕ) → BeginsWithSignature line rest bytes → BeginsWithSignature other more bytes
    → (line ≡ other) × (rest ≡ more)
one_line line other rest more bytes b d =
    let read : ReadKey bytes (32 ∷ (encode_lower line.sig.0 ++ 10 ∷ rest)) =
    record { key = line.key; is_key = b.good.key; split = b.text ∙ line_parts line rest } in
    let keys = key_behind bytes _ read other more d in
    let sigs = one_sig_text line.sig other.sig _ _ b.good.sig d.good.sig (one_behind 32 _ _ keys.1) in
    (same_line line other keys.0 sigs.0, one_behind 10 rest more sigs.1)

-- nothing begins with a line
pub not_nothing : (line : SignatureLine) (rest : List ℕ) → BeginsWithSignature line rest [] → ⊥
not_nothing line rest b = omega (arith, ap length b.text, length-append (signature_line_text line) (10 ∷ rest))
