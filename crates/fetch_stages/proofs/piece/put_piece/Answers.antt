use Rattle.std.proofs.Common.{List, ◌++◌, length, arith, subst, sym, take}
use Rattle.std.proofs.lemmas.Result.{err_from_is_err_and}
use Rattle.fetch_wire.specs.declared.part.Part.{Part}
use Rattle.repo_entries.specs.Batches.{AreContents}
use Rattle.fetch_stages.specs.Sections.{objects_among}
use Rattle.fetch_stages.proofs.Contents.{bytes_front, contents_before_break, broken_at, contents_fed, fed_broken, gives_before_break, gives_so_far}
use Rattle.fetch_stages.proofs.piece.put_piece.Goals as goal

pub take_parts-requires-clause-sizes : goal.take_parts-requires-clause-sizes
take_parts-requires-clause-sizes g c =
    let read = c.requires.read in
    let fed = c.in-Ok.ensures.fed read.0 read.1 read.2 read.3 in
    contents_fed read.0 read.1 (take c.in-Ok.fed.used c.args.piece.now) read.2 c.in-Ok.fed.parts c.feed.new.self
    read.4 (bytes_front c.in-Ok.fed.used c.args.piece.now (λ i. omega (arith, c.type_inv.piece i))) fed.0

pub returns-in_err-take_parts-in-Ok-clause-puts : goal.returns-in_err-take_parts-in-Ok-clause-puts
returns-in_err-take_parts-in-Ok-clause-puts g c which fed parts h =
    let p = err_from_is_err_and c.from_residual.result c.from_residual.ensures.1 in
    let was = c.in-Ok.ensures.fed which fed parts h in
    rw (p.1, p.2) (
      c.in-Ok.fed.parts,
      c.in-Ok.fed.used,
      was.1,
      gives_so_far which (fed ++ take c.in-Ok.fed.used c.args.piece.now) (parts ++ c.in-Ok.fed.parts) c.feed.new.self was.0,
      c.in_err-take_parts-in-Ok.ensures.stops,
    )

pub take_parts-requires-in-Err-Bad-clause-sizes : goal.take_parts-requires-in-Err-Bad-clause-sizes
take_parts-requires-in-Err-Bad-clause-sizes g c =
    let read = c.requires.read in
    let was = fed_broken read.0 read.1 read.2 c.args.piece.now c.feed.new.self c.in-Err-Bad.field-0 c.in-Err-Bad.broken
    c.in-Err-Bad.field-0-is (c.in-Err-Bad.ensures.fed read.0 read.1 read.2 read.3) in
    subst (λ (l : List Part). AreContents (objects_among l)) (sym c.take_before-parts.ensures.parts)
    (contents_before_break read.0 read.1 c.args.piece.now read.2 _ c.in-Err-Bad.broken read.4
    (λ i. omega (arith, c.type_inv.piece i)) was)

pub returns-in_err-take_parts-in-Err-Bad-clause-puts :
    goal.returns-in_err-take_parts-in-Err-Bad-clause-puts
returns-in_err-take_parts-in-Err-Bad-clause-puts g c which fed parts h =
    let p = err_from_is_err_and c.from_residual-in_err-take_parts-in-Err-Bad.result c.from_residual-in_err-take_parts-in-Err-Bad.ensures.1 in
    let was = fed_broken which fed parts c.args.piece.now c.feed.new.self c.in-Err-Bad.field-0 c.in-Err-Bad.broken
    c.in-Err-Bad.field-0-is (c.in-Err-Bad.ensures.fed which fed parts h) in
    let piece = c.args.piece.now in
    rw (p.1, p.2) (
      c.take_before-parts.result,
      length piece,
      omega arith,
      gives_before_break which fed piece parts _ c.take_before-parts.result c.in-Err-Bad.broken c.take_before-parts.ensures.parts was,
      c.in_err-take_parts-in-Err-Bad.ensures.stops,
    )

pub returns-in_ok-take_parts-in-Ok-clause-puts : goal.returns-in_ok-take_parts-in-Ok-clause-puts
returns-in_ok-take_parts-in-Ok-clause-puts g c which fed parts h =
    let was = c.in-Ok.ensures.fed which fed parts h in (
      c.in-Ok.fed.parts,
      was.0,
      was.1,
      was.2,
      was.3,
      c.in_ok-take_parts-in-Ok.ensures.head,
      c.in_ok-take_parts-in-Ok.ensures.joins,
    )

pub returns-in_ok-take_parts-in-Err-Bad-clause-puts :
    goal.returns-in_ok-take_parts-in-Err-Bad-clause-puts
returns-in_ok-take_parts-in-Err-Bad-clause-puts g c which fed parts h =
    let was = fed_broken which fed parts c.args.piece.now c.feed.new.self c.in-Err-Bad.field-0 c.in-Err-Bad.broken
    c.in-Err-Bad.field-0-is (c.in-Err-Bad.ensures.fed which fed parts h) in (
      c.take_before-parts.result,
      broken_at which fed c.args.piece.now parts _ c.take_before-parts.result c.in-Err-Bad.broken c.take_before-parts.ensures.parts was,
      c.in_ok-take_parts-in-Err-Bad.ensures.joins,
    )
