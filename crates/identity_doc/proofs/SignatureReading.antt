-- Signatures, a line at a time.
use Rattle.std.proofs.Common.{◌≡◌, ℕ, ◌+◌, List, [], ◌∷◌, ◌++◌, length, refl, sym, ap, ◌∙◌, arith, append_assoc}
use Rattle.std.proofs.lemmas.List.{append-nil}
use Rattle.std.proofs.lemmas.List.Elements.{All-push}
use Rattle.keyring.proofs.Files.{regroup}
use Rattle.identity_doc.specs.declared.signatures.SignatureLine.{SignatureLine}
use Rattle.identity_doc.specs.Signatures.{AreSignatures, BeginsWithSignature, BreaksSignaturesAt, IsSignatureLine, signature_line_text, lines_text}
use Rattle.identity_doc.specs.SignatureReaders.{HasReadSignatures, KeyMayFollow}
use Rattle.identity_doc.proofs.SignatureFronts.{one_line}
use Rattle.rad_base.specs.Order.{nid_cmp}
use Rattle.rad_base.proofs.Rising.{rises_last, rises_more}
use Rattle.identity_doc.specs.Signatures.{key_in}

lines_text-append : (xs ys : List SignatureLine) → lines_text (xs ++ ys) ≡ lines_text xs ++ lines_text ys
lines_text-append [] ys = refl
lines_text-append (x ∷ xs) ys =
    ap (λ (l : List ℕ). signature_line_text x ++ 10 ∷ l) (lines_text-append xs ys) ∙ sym (append_assoc (signature_line_text x) (10 ∷ lines_text xs) (lines_text ys))

-- at the start nothing was read
pub read_nothing : (bytes : List ℕ) → HasReadSignatures bytes bytes []
read_nothing bytes = record { good = record { formed = λ k d inside. absurd (omega arith); rising = tt }; text = refl }

-- one more line was read
pub read_more : (bytes rest behind : List ℕ) (lines : List SignatureLine) (line : SignatureLine) → HasReadSignatures bytes rest lines
    → BeginsWithSignature line behind rest → KeyMayFollow lines line.key → HasReadSignatures bytes behind (lines ++ line ∷ [])
read_more bytes rest behind lines line r b may = record {
  good = record {
    formed = All-push IsSignatureLine lines line r.good.formed b.good;
    rising = rises_more key_in nid_cmp lines line r.good.rising may;
  };
  text = r.text ∙ ap (λ (l : List ℕ). lines_text lines ++ l) b.text
      ∙ sym (ap (λ (l : List ℕ). l ++ behind) (lines_text-append lines (line ∷ [])) ∙ regroup (lines_text lines) (signature_line_text line) behind);
}

-- in the end all was read
pub read_all : (bytes rest : List ℕ) (lines : List SignatureLine) → HasReadSignatures bytes rest lines → rest ≡ [] → AreSignatures bytes lines
read_all bytes rest lines r e = record {
  good = r.good;
  text = r.text ∙ ap (λ (l : List ℕ). lines_text lines ++ l) e ∙ append-nil (lines_text lines);
}

-- the next line is broken where no line is in front
pub breaks_here : (bytes rest : List ℕ) (lines : List SignatureLine) → HasReadSignatures bytes rest lines → (rest ≡ [] → ⊥)
    → ((line : SignatureLine) (behind : List ℕ) → BeginsWithSignature line behind rest → ⊥) → BreaksSignaturesAt (length lines + 1) bytes
breaks_here bytes rest lines r more none = record {
  before = lines;
  rest = rest;
  good = r.good;
  text = r.text;
  more = more;
  broken = λ line behind b are. none line behind b;
  count = refl;
}

-- and where the line in front may not follow
pub breaks_order : (bytes rest behind : List ℕ) (lines : List SignatureLine) (line : SignatureLine) → HasReadSignatures bytes rest lines
    → (rest ≡ [] → ⊥) → BeginsWithSignature line behind rest → (KeyMayFollow lines line.key → ⊥) → BreaksSignaturesAt (length lines + 1) bytes
breaks_order bytes rest behind lines line r more b none = record {
  before = lines;
  rest = rest;
  good = r.good;
  text = r.text;
  more = more;
  broken = λ other after d are.
      let same = (one_line line other behind after rest b d).0 in
      none (rw same (rises_last key_in nid_cmp lines other are.rising));
  count = refl;
}
