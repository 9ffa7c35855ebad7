-- A blob of signatures is read in one way.
use Rattle.std.proofs.Common.{◌≡◌, ℕ, ◌+◌, List, [], ◌∷◌, ◌++◌, length, refl, sym, ap, subst, ◌∙◌, arith, append_assoc}
use Rattle.std.specs.List.{All}
use Rattle.std.proofs.lemmas.List.{append-nil}
use Rattle.std.proofs.lemmas.List.Elements.{All-cons, All-head, All-tail}
use Rattle.identity_doc.specs.declared.signatures.SignatureLine.{SignatureLine}
use Rattle.identity_doc.specs.Signatures.{AreSignatureLines, AreSignatures, BeginsWithSignature, BreaksSignaturesAt, AreRisingKeys, IsSignatureLine, signature_line_text, lines_text}
use Rattle.identity_doc.proofs.SignatureFronts.{not_nothing, one_line}

-- lines of their form in front of the rest
in_front : (line : SignatureLine) (lines : List SignatureLine) (rest bytes : List ℕ) → IsSignatureLine line
    → lines_text (line ∷ lines) ++ rest ≡ bytes → BeginsWithSignature line (lines_text lines ++ rest) bytes
in_front line lines rest bytes is e =
    record { good = is; text = sym e ∙ append_assoc (signature_line_text line) (10 ∷ lines_text lines) rest }

-- lines of which others are the front are these and more, which are the rest
pub more_lines : (before lines : List SignatureLine) (rest : List ℕ) → All IsSignatureLine before → All IsSignatureLine lines
    → lines_text lines ≡ lines_text before ++ rest → (more : List SignatureLine) × (lines ≡ before ++ more) × (rest ≡ lines_text more)
more_lines [] lines rest fine good e = (lines, refl, sym e)
more_lines (x ∷ before) [] rest fine good e =
    absurd (not_nothing x _ (in_front x before rest [] (All-head IsSignatureLine x before fine) (sym e)))
more_lines (x ∷ before) (y ∷ lines) rest fine good e =
    let a = in_front x before rest (lines_text (x ∷ before) ++ rest) (All-head IsSignatureLine x before fine) refl in
    let b = in_front y lines [] (lines_text (x ∷ before) ++ rest) (All-head IsSignatureLine y lines good) (append-nil (lines_text (y ∷ lines)) ∙ e) in
    let one = one_line x y _ _ (lines_text (x ∷ before) ++ rest) a b in
    let tail = more_lines before lines rest (All-tail IsSignatureLine x before fine) (All-tail IsSignatureLine y lines good)
    (sym (append-nil (lines_text lines)) ∙ sym one.1) in
    let head = one.0 in
    let rest_is = tail.1 in
    (tail.0, cc, tail.2)

no_text : (more : List SignatureLine) → All IsSignatureLine more → [] ≡ lines_text more → more ≡ []
no_text [] good e = refl
no_text (x ∷ more) good e = absurd (not_nothing x _ (record { good = All-head IsSignatureLine x more good; text = e }))

all_behind : (before more : List SignatureLine) → All IsSignatureLine (before ++ more) → All IsSignatureLine more
all_behind [] more good = good
all_behind (x ∷ before) more good = all_behind before more (All-tail IsSignatureLine x (before ++ more) good)

all_front : (front more : List SignatureLine) → All IsSignatureLine (front ++ more) → All IsSignatureLine front
all_front [] more good = λ k d inside. absurd (omega arith)
all_front (x ∷ front) more good =
    All-cons IsSignatureLine x front (All-head IsSignatureLine x (front ++ more) good) (all_front front more (All-tail IsSignatureLine x (front ++ more) good))

rising_front : (front more : List SignatureLine) → AreRisingKeys (front ++ more) → AreRisingKeys front
rising_front [] more rising = tt
rising_front (x ∷ []) more rising = tt
rising_front (x ∷ y ∷ front) more rising = (rising.0, rising_front (y ∷ front) more rising.1)

-- bytes are one list of lines
pub one_list : (bytes : List ℕ) (a b : List SignatureLine) → AreSignatures bytes a → AreSignatures bytes b → a ≡ b
one_list bytes a b h k =
    let parts = more_lines a b [] h.good.formed k.good.formed (sym k.text ∙ h.text ∙ sym (append-nil (lines_text a))) in
    let none = no_text parts.0 (all_behind a parts.0 (subst (λ (l : List SignatureLine). All IsSignatureLine l) parts.1 k.good.formed)) parts.2 in
    sym (parts.1 ∙ ap (λ (l : List SignatureLine). a ++ l) none ∙ append-nil a)

-- a broken line is none that may stand there
goes_on : (bytes : List ℕ) (n : ℕ) (b : BreaksSignaturesAt n bytes) (lines : List SignatureLine) (x : SignatureLine) (more : List SignatureLine) (behind : List ℕ)
    → AreSignatureLines lines → lines ≡ b.before ++ x ∷ more → b.rest ≡ lines_text (x ∷ more) ++ behind → ⊥
goes_on bytes n b lines x more behind fine e r =
    let regroup : lines ≡ (b.before ++ x ∷ []) ++ more = e ∙ sym (append_assoc b.before (x ∷ []) more) in
    let good = subst (λ (l : List SignatureLine). AreSignatureLines l) regroup fine in
    let is = All-head IsSignatureLine x more (all_behind b.before (x ∷ more) (subst (λ (l : List SignatureLine). All IsSignatureLine l) e fine.formed)) in
    b.broken x (lines_text more ++ behind) (in_front x more behind b.rest is (sym r))
    (record { formed = all_front (b.before ++ x ∷ []) more good.formed; rising = rising_front (b.before ++ x ∷ []) more good.rising })

-- bytes that are lines have no broken line
pub whole_unbroken : (bytes : List ℕ) (lines : List SignatureLine) (n : ℕ) → AreSignatures bytes lines → BreaksSignaturesAt n bytes → ⊥
whole_unbroken bytes lines n h b =
    let parts = more_lines b.before lines b.rest b.good.formed h.good.formed (sym h.text ∙ b.text) in
    next parts.0 parts.1 parts.2
  where
    next : (more : List SignatureLine) → lines ≡ b.before ++ more → b.rest ≡ lines_text more → ⊥
    next [] e r = b.more r
    next (x ∷ more) e r = goes_on bytes n b lines x more [] h.good e (r ∙ sym (append-nil (lines_text (x ∷ more))))

-- of two fronts of the same bytes one begins with the other
data Fronts (xs : List SignatureLine) (rest : List ℕ) (ys : List SignatureLine) (left : List ℕ) : Type 0 where
  within : (more : List SignatureLine) → ys ≡ xs ++ more → rest ≡ lines_text more ++ left → Fronts xs rest ys left
  beyond : (more : List SignatureLine) → xs ≡ ys ++ more → left ≡ lines_text more ++ rest → Fronts xs rest ys left

fronts_more : (x y : SignatureLine) (xs : List SignatureLine) (rest : List ℕ) (ys : List SignatureLine) (left : List ℕ) → x ≡ y → Fronts xs rest ys left
    → Fronts (x ∷ xs) rest (y ∷ ys) left
fronts_more x y xs rest ys left same (within more e r) =
    within more (ap (λ (l : SignatureLine). l ∷ ys) (sym same) ∙ ap (λ (l : List SignatureLine). x ∷ l) e) r
fronts_more x y xs rest ys left same (beyond more e r) =
    beyond more (ap (λ (l : SignatureLine). l ∷ xs) same ∙ ap (λ (l : List SignatureLine). y ∷ l) e) r

fronts : (xs : List SignatureLine) (rest : List ℕ) (ys : List SignatureLine) (left : List ℕ) → All IsSignatureLine xs → All IsSignatureLine ys
    → lines_text xs ++ rest ≡ lines_text ys ++ left → Fronts xs rest ys left
fronts [] rest ys left good fine e = within ys refl e
fronts (x ∷ xs) rest [] left good fine e = beyond (x ∷ xs) refl (sym e)
fronts (x ∷ xs) rest (y ∷ ys) left good fine e =
    let a = in_front x xs rest (lines_text (x ∷ xs) ++ rest) (All-head IsSignatureLine x xs good) refl in
    let b = in_front y ys left (lines_text (x ∷ xs) ++ rest) (All-head IsSignatureLine y ys fine) (sym e) in
    let one = one_line x y _ _ (lines_text (x ∷ xs) ++ rest) a b in
    fronts_more x y xs rest ys left one.0
    (fronts xs rest ys left (All-tail IsSignatureLine x xs good) (All-tail IsSignatureLine y ys fine) one.1)

-- one line is the first broken one
pub one_broken : (bytes : List ℕ) (n k : ℕ) → BreaksSignaturesAt n bytes → BreaksSignaturesAt k bytes → n ≡ k
one_broken bytes n k a b = by_fronts (fronts a.before a.rest b.before b.rest a.good.formed b.good.formed (sym a.text ∙ b.text))
  where
    by_fronts : Fronts a.before a.rest b.before b.rest → n ≡ k
    by_fronts (within [] e r) = a.count ∙ ap (λ (l : List SignatureLine). length l + 1) (sym (e ∙ append-nil a.before)) ∙ sym b.count
    by_fronts (within (x ∷ more) e r) = absurd (goes_on bytes n a b.before x more b.rest b.good e r)
    by_fronts (beyond [] e r) = a.count ∙ ap (λ (l : List SignatureLine). length l + 1) (e ∙ append-nil b.before) ∙ sym b.count
    by_fronts (beyond (x ∷ more) e r) = absurd (goes_on bytes k b a.before x more a.rest a.good e r)
