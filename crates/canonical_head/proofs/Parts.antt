-- Parts of a list that grows at its end.
use Rattle.std.proofs.Common.{◌≡◌, ℕ, ◌+◌, ◌-◌, ◌≤◌, List, [], ◌∷◌, ◌++◌, length, take, drop, Result, Ok, Err, refl, sym, ap, subst, ◌∙◌, arith, length-append, length-drop}
use Rattle.std.proofs.Math.Seq.{drop-append_seam}
use Rattle.std.proofs.lemmas.List.{drop-append-le, take-append-le, take_all, map-append}
use Rattle.std.specs.Prelude.{map, OnErr}
use Rattle.rad_base.proofs.EachItem.{each_more}
use Rattle.canonical_head.specs.declared.adjacency.Span.{Span}
use Rattle.canonical_head.specs.Spans.{AreSpans, part_of}

part_kept : (numbers more : List ℕ) (span : Span) → span.from ≤ span.to → span.to ≤ length numbers
    → part_of (numbers ++ more) span ≡ part_of numbers span
part_kept numbers more span order within =
    ap (take (span.to - span.from)) (drop-append-le span.from numbers more (omega (arith, order, within)))
    ∙ take-append-le (span.to - span.from) (drop span.from numbers) more (omega (arith, order, within, length-drop span.from numbers))

-- the parts stay what they are
parts_kept : (numbers more : List ℕ) (spans : List Span) → AreSpans numbers spans
    → map (part_of (numbers ++ more)) spans ≡ map (part_of numbers) spans
parts_kept numbers more [] h = refl
parts_kept numbers more (span ∷ spans) h =
    ap (λ (list : List ℕ). list ∷ map (part_of (numbers ++ more)) spans) (part_kept numbers more span h.0.0 h.0.1)
    ∙ ap (λ (lists : List (List ℕ)). part_of numbers span ∷ lists) (parts_kept numbers more spans h.1)

pub parts_same : (numbers numbers' more : List ℕ) (spans spans' : List Span) → numbers' ≡ numbers ++ more
    → spans' ≡ spans → AreSpans numbers spans → map (part_of numbers') spans' ≡ map (part_of numbers) spans
parts_same numbers numbers' more spans spans' e f h =
    ap (map (part_of numbers')) f ∙ ap (λ (xs : List ℕ). map (part_of xs) spans) e ∙ parts_kept numbers more spans h

-- and within the list
spans_kept : (numbers more : List ℕ) (spans : List Span) → AreSpans numbers spans
    → AreSpans (numbers ++ more) spans
spans_kept numbers more [] h = tt
spans_kept numbers more (span ∷ spans) h =
    ((h.0.0, omega (arith, h.0.1, length-append numbers more)), spans_kept numbers more spans h.1)

-- a list was added behind the others
pub spans_pushed : (numbers numbers' more : List ℕ) (spans spans' : List Span) (span : Span)
    → numbers' ≡ numbers ++ more → spans' ≡ spans ++ span ∷ [] → span.from ≡ length numbers
    → span.to ≡ length numbers' → AreSpans numbers spans → AreSpans numbers' spans'
spans_pushed numbers numbers' more spans spans' span e f from to h =
    let long : length numbers' ≡ length numbers + length more = ap length e ∙ length-append numbers more in
    subst (AreSpans numbers') (sym f)
    (each_more (λ (s : Span). (s.from ≤ s.to) × (s.to ≤ length numbers')) spans span
    (subst (λ (xs : List ℕ). AreSpans xs spans) (sym e) (spans_kept numbers more spans h))
    (omega (arith, from, to, long), omega (arith, to)))

-- the parts are then those before and the list
pub parts_pushed : (numbers numbers' more : List ℕ) (spans spans' : List Span) (span : Span)
    → numbers' ≡ numbers ++ more → spans' ≡ spans ++ span ∷ [] → span.from ≡ length numbers
    → span.to ≡ length numbers' → AreSpans numbers spans
    → map (part_of numbers') spans' ≡ map (part_of numbers) spans ++ more ∷ []
parts_pushed numbers numbers' more spans spans' span e f from to h =
    let long : span.to - span.from ≡ length more = omega (arith, from, to, ap length e, length-append numbers more) in
    let rest : drop span.from numbers' ≡ more =
    ap (λ (k : ℕ). drop k numbers') from ∙ ap (drop (length numbers)) e ∙ drop-append_seam numbers more in
    let part : part_of numbers' span ≡ more =
    ap (take (span.to - span.from)) rest ∙ take_all (span.to - span.from) more (omega (arith, long)) in
    ap (map (part_of numbers')) f
    ∙ map-append (part_of numbers') spans (span ∷ [])
    ∙ ap (λ (lists : List (List ℕ)). lists ++ part_of numbers' span ∷ []) (parts_same numbers numbers' more spans spans e refl h)
    ∙ ap (λ (list : List ℕ). map (part_of numbers) spans ++ list ∷ []) part

-- what holds in any case holds at an error
pub on_err : {T E P : Type 0} (result : Result T E) → P → OnErr result P
on_err (Ok x) p = tt
on_err (Err e) p = p
