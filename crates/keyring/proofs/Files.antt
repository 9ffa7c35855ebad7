-- Files, a line at a time.
use Rattle.std.proofs.Common.{◌≡◌, ℕ, ◌+◌, List, [], ◌∷◌, ◌++◌, length, refl, sym, ap, subst, ◌∙◌, arith, append_assoc, length-append}
use Rattle.std.proofs.lemmas.List.{append-nil}
use Rattle.keyring.specs.Contents.{Contents, contents_of}
use Rattle.keyring.specs.Keys.{Breaks, BreaksKeyringAt, Keys}
use Rattle.keyring.specs.Lines.{AreLinesBehind, BeginsWithLine, IsKeyringLine, KeyringLine, MayFollow, file_text, keyring_line_text}
use Rattle.keyring.specs.Readers.{Adds, HasRead}
use Rattle.keyring.proofs.LineFronts.{one_line}

file_text-append : (xs ys : List KeyringLine) → file_text (xs ++ ys) ≡ file_text xs ++ file_text ys
file_text-append [] ys = refl
file_text-append (x ∷ xs) ys =
    ap (λ (l : List ℕ). keyring_line_text x ++ 10 ∷ l) (file_text-append xs ys) ∙ sym (append_assoc (keyring_line_text x) (10 ∷ file_text xs) (file_text ys))

-- one line more that has its form and may follow
lines_push : (before lines : List KeyringLine) (line : KeyringLine) → AreLinesBehind before lines → IsKeyringLine line → MayFollow (before ++ lines) line
    → AreLinesBehind before (lines ++ line ∷ [])
lines_push before [] line good is may = (is, subst (λ (l : List KeyringLine). MayFollow l line) (append-nil before) may, tt)
lines_push before (x ∷ lines) line good is may =
    (good.0, good.1, lines_push (before ++ x ∷ []) lines line good.2 is (subst (λ (l : List KeyringLine). MayFollow l line) (sym (append_assoc before (x ∷ []) lines)) may))

-- at the start nothing was read
pub read_nothing : (bytes : List ℕ) → HasRead bytes bytes 1 (contents_of [])
read_nothing bytes = record { lines = []; good = tt; text = refl; count = refl; says = refl }

-- a line feed in front of what stands behind it
pub regroup : (a b c : List ℕ) → (a ++ (b ++ 10 ∷ [])) ++ c ≡ a ++ (b ++ 10 ∷ c)
regroup a b c = simp append_assoc

-- one more line was read
pub read_more : (bytes rest behind : List ℕ) (number : ℕ) (old new : Contents) (line : KeyringLine) → HasRead bytes rest number old
    → BeginsWithLine line behind rest → Adds line old new → HasRead bytes behind (number + 1) new
read_more bytes rest behind number old new line r b adds = record {
  lines = r.lines ++ line ∷ [];
  good = lines_push [] r.lines line r.good b.good (adds.follows r.lines r.says);
  text = r.text ∙ ap (λ (l : List ℕ). file_text r.lines ++ l) b.text
      ∙ sym (ap (λ (l : List ℕ). l ++ behind) (file_text-append r.lines (line ∷ [])) ∙ regroup (file_text r.lines) (keyring_line_text line) behind);
  count = omega (arith, r.count, length-append r.lines (line ∷ []));
  says = adds.says r.lines r.says;
}

-- in the end all was read
pub read_all : (bytes rest : List ℕ) (number : ℕ) (keyring : Contents) → HasRead bytes rest number keyring → rest ≡ [] → Keys bytes keyring
read_all bytes rest number keyring r e = record {
  lines = r.lines;
  good = r.good;
  text = r.text ∙ ap (λ (l : List ℕ). file_text r.lines ++ l) e ∙ append-nil (file_text r.lines);
  says = r.says;
}

-- the next line is broken where no line is in front
pub breaks_here : (bytes rest : List ℕ) (number : ℕ) (keyring : Contents) → HasRead bytes rest number keyring → (rest ≡ [] → ⊥)
    → ((line : KeyringLine) (behind : List ℕ) → BeginsWithLine line behind rest → ⊥) → BreaksKeyringAt number bytes
breaks_here bytes rest number keyring r more none = record {
  before = r.lines;
  rest = rest;
  good = r.good;
  text = r.text;
  breaks = record { more = more; broken = λ line behind b may. none line behind b };
  count = r.count;
}

-- and where the line in front may not follow
pub breaks_order : (bytes rest behind : List ℕ) (number : ℕ) (keyring : Contents) (line : KeyringLine) → HasRead bytes rest number keyring
    → (rest ≡ [] → ⊥) → BeginsWithLine line behind rest
    → ((before : List KeyringLine) → keyring ≡ contents_of before → MayFollow before line → ⊥) → BreaksKeyringAt number bytes
breaks_order bytes rest behind number keyring line r more b none = record {
  before = r.lines;
  rest = rest;
  good = r.good;
  text = r.text;
  breaks = record {
    more = more;
    broken = λ other after d may. none r.lines r.says (subst (λ (l : KeyringLine). MayFollow r.lines l) (sym (one_line line other behind after rest b d).0) may);
  };
  count = r.count;
}

-- ---- one reading

-- good lines in front of the rest
in_front : (line : KeyringLine) (lines : List KeyringLine) (rest : List ℕ) → IsKeyringLine line → BeginsWithLine line (file_text lines ++ rest) (file_text (line ∷ lines) ++ rest)
in_front line lines rest is = record { good = is; text = append_assoc (keyring_line_text line) (10 ∷ file_text lines) rest }

-- a line that begins the bytes, which are given otherwise
moved : (line : KeyringLine) (rest a b : List ℕ) → a ≡ b → BeginsWithLine line rest a → BeginsWithLine line rest b
moved line rest a b e d = record { good = d.good; text = sym e ∙ d.text }

not_nothing : (line : KeyringLine) (rest : List ℕ) → BeginsWithLine line rest [] → ⊥
not_nothing line rest b = omega (arith, ap length b.text, length-append (keyring_line_text line) (10 ∷ rest))

-- the first lines of two readings are one
same_first : (line other : KeyringLine) (lines others : List KeyringLine) (r s : List ℕ) → IsKeyringLine line → IsKeyringLine other
    → file_text (line ∷ lines) ++ r ≡ file_text (other ∷ others) ++ s → (line ≡ other) × (file_text lines ++ r ≡ file_text others ++ s)
same_first line other lines others r s is it e =
    one_line line other _ _ _ (in_front line lines r is) (moved other _ _ _ (sym e) (in_front other others s it))

-- two readings of whole bytes have the same lines
pub same_lines : (before lines others : List KeyringLine) → AreLinesBehind before lines → AreLinesBehind before others
    → file_text lines ≡ file_text others → lines ≡ others
same_lines before [] [] good fine e = refl
same_lines before [] (y ∷ others) good fine e = absurd (not_nothing y (file_text others) (record { good = fine.0; text = e }))
same_lines before (x ∷ lines) [] good fine e = absurd (not_nothing x (file_text lines) (record { good = good.0; text = sym e }))
same_lines before (x ∷ lines) (y ∷ others) good fine e =
    let parts = same_first x y lines others [] [] good.0 fine.0 (append-nil _ ∙ e ∙ sym (append-nil _)) in
    let tail = same_lines (before ++ x ∷ []) lines others good.2 (subst (λ (l : KeyringLine). AreLinesBehind (before ++ l ∷ []) others) (sym parts.0) fine.2)
    (sym (append-nil _) ∙ parts.1 ∙ append-nil _) in
    let head = parts.0 in
    cc

-- bytes that are lines break nowhere
pub whole_unbroken : (before lines others : List KeyringLine) (rest : List ℕ) → AreLinesBehind before lines → AreLinesBehind before others
    → file_text lines ≡ file_text others ++ rest → Breaks (before ++ others) rest → ⊥
whole_unbroken before [] [] rest good fine e breaks = breaks.more (sym e)
whole_unbroken before [] (y ∷ others) rest good fine e breaks = not_nothing y _ (moved y _ _ _ (sym e) (in_front y others rest fine.0))
whole_unbroken before (x ∷ lines) [] rest good fine e breaks =
    breaks.broken x (file_text lines) (record { good = good.0; text = sym e }) (subst (λ (l : List KeyringLine). MayFollow l x) (sym (append-nil before)) good.1)
whole_unbroken before (x ∷ lines) (y ∷ others) rest good fine e breaks =
    let parts = same_first x y lines others [] rest good.0 fine.0 (append-nil _ ∙ e) in
    whole_unbroken (before ++ x ∷ []) lines others rest good.2 (subst (λ (l : KeyringLine). AreLinesBehind (before ++ l ∷ []) others) (sym parts.0) fine.2)
    (sym (append-nil _) ∙ parts.1)
    (subst (λ (l : List KeyringLine). Breaks l rest) (ap (λ (l : KeyringLine). before ++ l ∷ others) (sym parts.0) ∙ sym (append_assoc before (x ∷ []) others)) breaks)

-- bytes break at one place
pub one_break : (before lines others : List KeyringLine) (r s : List ℕ) → AreLinesBehind before lines → AreLinesBehind before others
    → file_text lines ++ r ≡ file_text others ++ s → Breaks (before ++ lines) r → Breaks (before ++ others) s → length lines ≡ length others
one_break before [] [] r s good fine e broken breaks = refl
one_break before [] (y ∷ others) r s good fine e broken breaks =
    absurd (broken.broken y _ (moved y _ _ _ (sym e) (in_front y others s fine.0)) (subst (λ (l : List KeyringLine). MayFollow l y) (sym (append-nil before)) fine.1))
one_break before (x ∷ lines) [] r s good fine e broken breaks =
    absurd (breaks.broken x _ (moved x _ _ _ e (in_front x lines r good.0)) (subst (λ (l : List KeyringLine). MayFollow l x) (sym (append-nil before)) good.1))
one_break before (x ∷ lines) (y ∷ others) r s good fine e broken breaks =
    let parts = same_first x y lines others r s good.0 fine.0 e in
    let tail = one_break (before ++ x ∷ []) lines others r s good.2
    (subst (λ (l : KeyringLine). AreLinesBehind (before ++ l ∷ []) others) (sym parts.0) fine.2) parts.1
    (subst (λ (l : List KeyringLine). Breaks l r) (sym (append_assoc before (x ∷ []) lines)) broken)
    (subst (λ (l : List KeyringLine). Breaks l s) (ap (λ (l : KeyringLine). before ++ l ∷ others) (sym parts.0) ∙ sym (append_assoc before (x ∷ []) others)) breaks) in
    omega (arith, tail)

-- a file says one thing
pub one_reading : (bytes : List ℕ) (a b : Contents) → Keys bytes a → Keys bytes b → a ≡ b
one_reading bytes a b p q =
    p.says ∙ ap contents_of (same_lines [] p.lines q.lines p.good q.good (sym p.text ∙ q.text)) ∙ sym q.says

-- a file that is read has no broken line
pub read_unbroken : (bytes : List ℕ) (keyring : Contents) (n : ℕ) → Keys bytes keyring → BreaksKeyringAt n bytes → ⊥
read_unbroken bytes keyring n p b = whole_unbroken [] p.lines b.before b.rest p.good b.good (sym p.text ∙ b.text) b.breaks

-- a file has one first broken line
pub one_broken_line : (bytes : List ℕ) (m n : ℕ) → BreaksKeyringAt m bytes → BreaksKeyringAt n bytes → m ≡ n
one_broken_line bytes m n p q =
    let same = one_break [] p.before q.before p.rest q.rest p.good q.good (sym p.text ∙ q.text) p.breaks q.breaks in
    omega (arith, same, p.count, q.count)
