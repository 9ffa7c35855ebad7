-- Lines and their bytes, a line at a time.
use Rattle.std.proofs.Common.{◌≡◌, ℕ, ◌+◌, ◌<◌, ◌≤◌, List, [], ◌∷◌, ◌++◌, length, Option, None, Some, refl, sym, ap, subst, ◌∙◌, arith, append_assoc, length-append}
use Rattle.std.proofs.lemmas.List.{append-nil}
use Rattle.std.proofs.lemmas.Grind.{flat_map-append}
use Rattle.rad_base.proofs.EachItem.{each_more}
use Rattle.rad_base.proofs.Rising.{rise_more}
use Rattle.hex.specs.Hex.{encode_lower}
use Rattle.rad_base.specs.Order.{IsBelow, RiseFrom, last_from}
use Rattle.signed_refs.specs.Lines.{IsRefLine, Line, SpellsRefs, SpellsTo, ref_line_text, refs_text, name_in}
use Rattle.signed_refs.specs.Readings.{BreaksRefsAt, Continues, HasTooMany}

-- one more line behind others
pub text_more : (lines : List Line) (line : Line) → refs_text (lines ++ line ∷ []) ≡ refs_text lines ++ ref_line_text line
text_more lines line =
    flat_map-append ref_line_text lines (line ∷ []) ∙ ap (λ (l : List ℕ). refs_text lines ++ l) (append-nil (ref_line_text line))

-- at the start nothing was read
pub spelled_none : (bytes : List ℕ) → SpellsTo [] bytes bytes
spelled_none bytes = record { each = tt; rising = tt; text = refl }

-- one more line was read
pub spelled_more : (lines : List Line) (line : Line) (behind rest bytes : List ℕ) → SpellsTo lines rest bytes → Continues lines line behind rest
    → SpellsTo (lines ++ line ∷ []) behind bytes
spelled_more lines line behind rest bytes s c = record {
  each = each_more IsRefLine lines line s.each c.good;
  rising = rise_more name_in None lines line s.rising c.above;
  text =
      s.text ∙ ap (λ (l : List ℕ). refs_text lines ++ l) c.text ∙ sym (append_assoc (refs_text lines) (ref_line_text line) behind)
      ∙ ap (λ (l : List ℕ). l ++ behind) (sym (text_more lines line));
}

-- in the end all was read
pub spelled_all : (lines : List Line) (rest bytes : List ℕ) → SpellsTo lines rest bytes → rest ≡ [] → length lines ≤ 65536 → SpellsRefs lines bytes
spelled_all lines rest bytes s e few = record { spelled = subst (λ (l : List ℕ). SpellsTo lines l bytes) e s; few = few }

-- a line has bytes
pub line_is_longer : (line : Line) (behind bytes : List ℕ) → bytes ≡ ref_line_text line ++ behind → length behind < length bytes
line_is_longer line behind bytes e =
    omega (arith, ap length e, length-append (ref_line_text line) behind, length-append (encode_lower line.1.0) (32 ∷ (line.0 ++ 10 ∷ [])))

-- no line stands in front of nothing
pub no_line : (line : Line) (behind : List ℕ) → [] ≡ ref_line_text line ++ behind → ⊥
no_line line behind e = omega (arith, line_is_longer line behind [] e)

-- the next line is broken
pub breaks_here : (lines : List Line) (rest bytes : List ℕ) → SpellsTo lines rest bytes → (rest ≡ [] → ⊥)
    → ((line : Line) (behind : List ℕ) → Continues lines line behind rest → ⊥) → length lines < 65536 → BreaksRefsAt (length lines + 1) bytes
breaks_here lines rest bytes s more none few = record {
  before = lines;
  rest = rest;
  spelled = s;
  stops = record { more = more; none = none };
  few = few;
  count = refl;
}

-- too many lines
pub too_many_here : (lines : List Line) (rest bytes : List ℕ) → SpellsTo lines rest bytes → (rest ≡ [] → ⊥) → length lines ≡ 65536 → HasTooMany bytes
too_many_here lines rest bytes s more count = record { before = lines; rest = rest; spelled = s; more = more; count = count }
