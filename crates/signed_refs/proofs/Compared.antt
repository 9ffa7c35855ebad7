-- Two readings of the same bytes.
use Rattle.std.proofs.Common.{◌≡◌, ℕ, ◌+◌, ◌<◌, ◌≤◌, List, [], ◌∷◌, ◌++◌, length, Option, None, Some, Result, Ok, Err, refl, sym, ap, subst, ◌∙◌, arith, append_assoc}
use Rattle.std.specs.List.{AllByRecursion}
use Rattle.rad_base.specs.Order.{IsBelow, RiseFrom, last_from}
use Rattle.signed_refs.specs.Lines.{IsRefLine, Line, SpellsRefs, SpellsTo, ref_line_text, refs_text, name_in}
use Rattle.signed_refs.specs.Readings.{BreaksRefsAt, Continues, HasTooMany, ReadsRefs}
use Rattle.signed_refs.specs.declared.fault.RefsFault.{RefsFault}
use Rattle.signed_refs.specs.declared.fault.RefsFault.TheVariants.{BadLine, NoMemory, TooMany}
use Rattle.signed_refs.proofs.OneLine.{one_line}
use Rattle.signed_refs.proofs.Spelled.{no_line}

-- a line goes on behind lines that begin above a name
pub record GoesOn (before : Option (List ℕ)) (lines : List Line) (rest : List ℕ) : Type 0 where
  pub line : Line
  pub behind : List ℕ
  pub good : IsRefLine line
  pub above : IsBelow (last_from name_in before lines) line.0
  pub text : rest ≡ ref_line_text line ++ behind

-- both readings are one, or one is shorter and goes on
pub data Compared (before : Option (List ℕ)) (lines : List Line) (rest : List ℕ) (others : List Line) (more : List ℕ) : Type 0 where
  same : lines ≡ others → rest ≡ more → Compared before lines rest others more
  less : length lines < length others → GoesOn before lines rest → Compared before lines rest others more
  greater : length others < length lines → GoesOn before others more → Compared before lines rest others more

goes_on : (before : Option (List ℕ)) (x : Line) (lines : List Line) (rest : List ℕ) → GoesOn (Some x.0) lines rest → GoesOn before (x ∷ lines) rest
goes_on before x lines rest g = record { line = g.line; behind = g.behind; good = g.good; above = g.above; text = g.text }

one_longer : (before : Option (List ℕ)) (x : Line) (lines : List Line) (rest : List ℕ) (others : List Line) (more : List ℕ)
    → Compared (Some x.0) lines rest others more → Compared before (x ∷ lines) rest (x ∷ others) more
one_longer before x lines rest others more (same e f) = same (ap (λ (l : List Line). x ∷ l) e) f
one_longer before x lines rest others more (less shorter g) = less (omega (arith, shorter)) (goes_on before x lines rest g)
one_longer before x lines rest others more (greater shorter g) = greater (omega (arith, shorter)) (goes_on before x others more g)

-- the next line where no more lines were read
begins_more : (before : Option (List ℕ)) (y : Line) (others : List Line) (rest more : List ℕ) → IsRefLine y → IsBelow before y.0
    → rest ≡ (ref_line_text y ++ refs_text others) ++ more → GoesOn before [] rest
begins_more before y others rest more good above e = record {
  line = y;
  behind = refs_text others ++ more;
  good = good;
  above = above;
  text = e ∙ append_assoc (ref_line_text y) (refs_text others) more;
}

compare : (before : Option (List ℕ)) (lines others : List Line) (rest more : List ℕ) → AllByRecursion IsRefLine lines → RiseFrom name_in before lines
    → AllByRecursion IsRefLine others → RiseFrom name_in before others → refs_text lines ++ rest ≡ refs_text others ++ more
    → Compared before lines rest others more
compare before [] [] rest more each rising all up e = same refl e
compare before [] (y ∷ others) rest more each rising all up e = less (omega arith) (begins_more before y others rest more all.0 up.0 e)
compare before (x ∷ lines) [] rest more each rising all up e =
    greater (omega arith) (begins_more before x lines more rest each.0 rising.0 (sym e))
compare before (x ∷ lines) (y ∷ others) rest more each rising all up e =
    let one = one_line x y (refs_text lines ++ rest) (refs_text others ++ more) each.0 all.0
    (sym (append_assoc (ref_line_text x) (refs_text lines) rest) ∙ e ∙ append_assoc (ref_line_text y) (refs_text others) more) in
    let tail = compare (Some x.0) lines others rest more each.1 rising.1 all.1
    (subst (λ (l : Line). RiseFrom name_in (Some l.0) others) (sym one.0) up.1) one.1 in
    subst (λ (l : Line). Compared before (x ∷ lines) rest (l ∷ others) more) one.0 (one_longer before x lines rest others more tail)

-- two readings from the first byte on
pub compared : (bytes : List ℕ) (lines others : List Line) (rest more : List ℕ) → SpellsTo lines rest bytes → SpellsTo others more bytes
    → Compared None lines rest others more
compared bytes lines others rest more s t = compare None lines others rest more s.each s.rising t.each t.rising (sym s.text ∙ t.text)

nothing_goes_on : (lines : List Line) → GoesOn None lines [] → ⊥
nothing_goes_on lines g = no_line g.line g.behind g.text

continues : (lines : List Line) (rest : List ℕ) (g : GoesOn None lines rest) → Continues lines g.line g.behind rest
continues lines rest g = record { good = g.good; above = g.above; text = g.text }

same_lines : (lines others : List Line) → Compared None lines [] others [] → lines ≡ others
same_lines lines others (same e f) = e
same_lines lines others (less shorter g) = absurd (nothing_goes_on lines g)
same_lines lines others (greater shorter g) = absurd (nothing_goes_on others g)

-- bytes spell one list of lines
pub one_list : (bytes : List ℕ) (lines others : List Line) → SpellsRefs lines bytes → SpellsRefs others bytes → lines ≡ others
one_list bytes lines others a b = same_lines lines others (compared bytes lines others [] [] a.spelled b.spelled)

read_unbroken : (bytes : List ℕ) (lines : List Line) (n : ℕ) (b : BreaksRefsAt n bytes) → Compared None lines [] b.before b.rest → ⊥
read_unbroken bytes lines n b (same e f) = b.stops.more (sym f)
read_unbroken bytes lines n b (less shorter g) = nothing_goes_on lines g
read_unbroken bytes lines n b (greater shorter g) = b.stops.none g.line g.behind (continues b.before b.rest g)

-- what is read has no broken line
pub not_broken : (bytes : List ℕ) (lines : List Line) (n : ℕ) → SpellsRefs lines bytes → BreaksRefsAt n bytes → ⊥
not_broken bytes lines n a b = read_unbroken bytes lines n b (compared bytes lines b.before [] b.rest a.spelled b.spelled)

read_few : (bytes : List ℕ) (lines : List Line) (m : HasTooMany bytes) → length lines ≤ 65536 → Compared None lines [] m.before m.rest → ⊥
read_few bytes lines m few (same e f) = m.more (sym f)
read_few bytes lines m few (less shorter g) = nothing_goes_on lines g
read_few bytes lines m few (greater shorter g) = omega (arith, shorter, few, m.count)

-- nor too many lines
pub not_too_many : (bytes : List ℕ) (lines : List Line) → SpellsRefs lines bytes → HasTooMany bytes → ⊥
not_too_many bytes lines a m = read_few bytes lines m a.few (compared bytes lines m.before [] m.rest a.spelled m.spelled)

same_count : (bytes : List ℕ) (n k : ℕ) (a : BreaksRefsAt n bytes) (b : BreaksRefsAt k bytes) → Compared None a.before a.rest b.before b.rest → n ≡ k
same_count bytes n k a b (same e f) = a.count ∙ ap (λ (l : List Line). length l + 1) e ∙ sym b.count
same_count bytes n k a b (less shorter g) = absurd (a.stops.none g.line g.behind (continues a.before a.rest g))
same_count bytes n k a b (greater shorter g) = absurd (b.stops.none g.line g.behind (continues b.before b.rest g))

-- one line is the first broken one
pub one_broken_line : (bytes : List ℕ) (n k : ℕ) → BreaksRefsAt n bytes → BreaksRefsAt k bytes → n ≡ k
one_broken_line bytes n k a b = same_count bytes n k a b (compared bytes a.before b.before a.rest b.rest a.spelled b.spelled)

broken_first : (bytes : List ℕ) (n : ℕ) (b : BreaksRefsAt n bytes) (m : HasTooMany bytes) → Compared None b.before b.rest m.before m.rest → ⊥
broken_first bytes n b m (same e f) = omega (arith, b.few, m.count, ap length e)
broken_first bytes n b m (less shorter g) = b.stops.none g.line g.behind (continues b.before b.rest g)
broken_first bytes n b m (greater shorter g) = omega (arith, shorter, b.few, m.count)

-- a broken line comes before too many
pub not_both : (bytes : List ℕ) (n : ℕ) → BreaksRefsAt n bytes → HasTooMany bytes → ⊥
not_both bytes n b m = broken_first bytes n b m (compared bytes b.before m.before b.rest m.rest b.spelled m.spelled)

-- bytes are read in one way, want of memory apart
pub one_reading : (bytes : List ℕ) (a b : Result (List Line) RefsFault) → ReadsRefs bytes a → ReadsRefs bytes b
    → (a ≡ Err NoMemory → ⊥) → (b ≡ Err NoMemory → ⊥) → a ≡ b
one_reading bytes (Ok lines) (Ok others) p q na nb = ap Ok (one_list bytes lines others p q)
one_reading bytes (Ok lines) (Err (BadLine n)) p q na nb = absurd (not_broken bytes lines n p q)
one_reading bytes (Ok lines) (Err TooMany) p q na nb = absurd (not_too_many bytes lines p q)
one_reading bytes (Ok lines) (Err NoMemory) p q na nb = absurd (nb refl)
one_reading bytes (Err (BadLine n)) (Ok lines) p q na nb = absurd (not_broken bytes lines n q p)
one_reading bytes (Err (BadLine n)) (Err (BadLine k)) p q na nb = ap (λ (m : ℕ). Err (BadLine m)) (one_broken_line bytes n k p q)
one_reading bytes (Err (BadLine n)) (Err TooMany) p q na nb = absurd (not_both bytes n p q)
one_reading bytes (Err (BadLine n)) (Err NoMemory) p q na nb = absurd (nb refl)
one_reading bytes (Err TooMany) (Ok lines) p q na nb = absurd (not_too_many bytes lines q p)
one_reading bytes (Err TooMany) (Err (BadLine n)) p q na nb = absurd (not_both bytes n q p)
one_reading bytes (Err TooMany) (Err TooMany) p q na nb = refl
one_reading bytes (Err TooMany) (Err NoMemory) p q na nb = absurd (nb refl)
one_reading bytes (Err NoMemory) b p q na nb = absurd (na refl)

-- what spells lines is read as them
pub read_back : (lines : List Line) (bytes : List ℕ) (answer : Result (List Line) RefsFault) → SpellsRefs lines bytes → ReadsRefs bytes answer
    → (answer ≡ Err NoMemory → ⊥) → answer ≡ Ok lines
read_back lines bytes answer s r not = one_reading bytes answer (Ok lines) r s not (λ e. cc e)
