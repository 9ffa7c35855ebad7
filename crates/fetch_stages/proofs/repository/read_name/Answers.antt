use Rattle.std.proofs.Common.{rules, ◌≡◌, ◌∙◌, ◌<◌, ℕ, List, [], ap, arith, length, subst, sym, take}
use Rattle.std.specs.Prelude.{slice_index_or}
use Rattle.std.proofs.lemmas.List.{length-take}
use Rattle.fetch_stages.specs.Pieces.{Uses}
use Rattle.fetch_stages.proofs.Entering.{loan_along}
use Rattle.fetch_stages.proofs.Naming.{name_more, name_set}
use Rattle.fetch_stages.proofs.Windows.{none_left, some_left, uses_filled}
use Rattle.fetch_stages.proofs.repository.read_name.Goals as goal

pub returns-in-Err-clause-reads : goal.returns-in-Err-clause-reads
returns-in-Err-clause-reads g c =
    let left = g.S.Source.left in
    let name = take c.reading.count c.reading.name in
    let size = length-take c.reading.count c.reading.name in
    let below = c.reading-test.true in (
      name,
      uses_filled (left c.args.input.now.0) (left c.reading.input.0) (left c.fill.new.self.0) c.args.input.now.1 name
          c.reading.input.1 c.fill.new.self.1 c.reading.invariant.uses c.in-Err.ensures.fills,
      omega (arith, size, below),
    )

pub returns-then-is_empty-clause-reads : goal.returns-then-is_empty-clause-reads
returns-then-is_empty-clause-reads g c =
    let left = g.S.Source.left in
    let name = take c.reading.count c.reading.name in
    let size = length-take c.reading.count c.reading.name in
    let below = c.reading-test.true in
    let none : c.fill.new.self.1 ≡ [] = sym c.rest-rest.ensures
    ∙ none_left c.rest-rest.result.now c.is_empty.result c.is_empty.ensures c.if-is_empty.true in (
      name,
      subst (λ (rest : List ℕ). Uses (left c.args.input.now.0) (left c.fill.new.self.0) c.args.input.now.1 name rest) none
          (uses_filled (left c.args.input.now.0) (left c.reading.input.0) (left c.fill.new.self.0) c.args.input.now.1 name
          c.reading.input.1 c.fill.new.self.1 c.reading.invariant.uses c.in_default.ensures.fills),
      omega (arith, size, below),
      none,
      c.in_default.ensures.end none,
    )

pub reading-preserved : goal.reading-preserved
reading-preserved g c =
    let source = g.S.Source in
    let left = source.left in
    let h = c.reading.invariant in
    let name = take c.reading.count c.reading.name in
    let size = h.name.size in
    let below = c.reading-test.true in
    let byte = slice_index_or c.rest-rest.result.now 0 0 in
    let some : 0 < length c.fill.new.self.1 = subst (λ (l : List ℕ). 0 < length l) c.rest-rest.ensures
    (some_left c.rest-rest.result.now c.is_empty.result c.is_empty.ensures c.if-is_empty.false) in
    let u = uses_filled (left c.args.input.now.0) (left c.reading.input.0) (left c.fill.new.self.0) c.args.input.now.1 name
    c.reading.input.1 c.fill.new.self.1 h.uses c.in_default.ensures.fills in
    let source_is = ap (λ (x : g.row.S.Denot). left x) c.used.ensures.source in
    record {
      loan = rw c.used.ensures.source (loan_along source.loan source.faults c.args.input.now.0 c.reading.input.0
          c.fill.new.self.0 h.loan c.in_default.ensures.loan c.in_default.ensures.cause.later);
      few = omega (arith, below);
      name = name_set c.reading.name c.reading.count byte below (search rules) h.name;
      uses = rw (c.used.ensures.rest, source_is) (name_more (left c.args.input.now.0) (left c.fill.new.self.0)
          c.args.input.now.1 c.reading.name c.fill.new.self.1 c.reading.count byte (omega (arith, below, size)) some
          (ap (λ (l : List ℕ). slice_index_or l 0 0) c.rest-rest.ensures) u);
    }
