-- Parts of a list.
use Rattle.std.specs.Prelude.{ℕ, ◌-◌, ◌≤◌, List, length, take, drop}
use Rattle.std.specs.List.{AllByRecursion}
use Rattle.canonical_head.specs.declared.adjacency.Span.{Span}

-- the part of a list from one place to another
abbrev pub part_of : List ℕ → Span → List ℕ
part_of numbers span = take (span.to - span.from) (drop span.from numbers)

-- each span lies within the list
abbrev pub AreSpans : List ℕ → List Span → Type 0
AreSpans numbers spans = AllByRecursion (λ span. (span.from ≤ span.to) × (span.to ≤ length numbers)) spans
