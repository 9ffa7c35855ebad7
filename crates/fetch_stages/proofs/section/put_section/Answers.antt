use Rattle.std.proofs.Common.{◌≡◌, ◌∙◌, ℕ, List, [], arith, ap, length, refl, subst, sym, take}
use Rattle.std.specs.Prelude.{Err, Ok}
use Rattle.std.specs.Io.KnownBytes.{IsAtEnd}
use Rattle.std.proofs.lemmas.List.{length-take}
use Rattle.std.proofs.lemmas.Result.{err_from_is_err_and}
use Rattle.fetch_wire.specs.SectionReaders.{unit_of}
use Rattle.fetch_stages.specs.Puts.{PutsAll, StopsPutting}
use Rattle.fetch_stages.specs.Sections.{PutsPiece}
use Rattle.fetch_stages.specs.declared.section_stop.SectionStop.TheVariants as stop
use Rattle.fetch_stages.proofs.Entering.{leaves_along, leaves_none, loan_along, same_caller}
use Rattle.fetch_stages.proofs.Reading.{inside, new_goes_on, piece_is, puts_section, read_no_fault, stops_at_piece, stops_last_put, stops_now, used_filled, used_none, used_piece}
use Rattle.fetch_stages.proofs.Windows.{none_left, some_left}
use Rattle.fetch_stages.proofs.section.put_section.Goals as goal

pub reading-init : goal.reading-init
reading-init g c =
    let keep = g.K.Keep in
    record {
      leaves = leaves_none keep.constants keep.loan keep.faults keep.held c.args.rid.now c.args.keep.now;
      input = record { loan_stays = refl; later = omega arith };
      used = used_none keep.made keep.held c.args.rid.now (keep.constants c.args.keep.now).caller c.args.keep.now
          c.args.which c.args.limit (g.S.Source.left c.args.input.now.0) c.args.input.now.1 c.new-reader.result
          c.new-taken.result c.new-reader.ensures c.new-taken.ensures.head c.new-taken.ensures.none;
      going = new_goes_on c.args.which c.new-reader.result c.new-reader.ensures;
    }

pub returns-in-Err-clause-stops : goal.returns-in-Err-clause-stops
returns-in-Err-clause-stops g c =
    let h = c.reading.invariant in
    let source = g.S.Source.left c.fill.new.self.0 in
    let f = used_filled h.used source c.fill.new.self.1 c.in-Err.ensures.fills in
    stops_now f (g.K.Keep.end c.reading.keep) (IsAtEnd source) stop.ReadFault
    ((unit_of c.reading.reader).place, inside f h.going) (λ objects x. x)

pub returns-then-is_empty-clause-stops : goal.returns-then-is_empty-clause-stops
returns-then-is_empty-clause-stops g c =
    let h = c.reading.invariant in
    let source = g.S.Source.left c.fill.new.self.0 in
    let f = used_filled h.used source c.fill.new.self.1 c.in_default.ensures.fills in
    let none : c.fill.new.self.1 ≡ [] = sym c.rest-rest.ensures
    ∙ none_left c.rest-rest.result.now c.is_empty.result c.is_empty.ensures c.if-is_empty.true in
    rw c.place.ensures
    (stops_now f (g.K.Keep.end c.reading.keep) (IsAtEnd source) (stop.Ends (unit_of c.reading.reader).place)
    (inside f h.going, none, c.in_default.ensures.end none) (λ objects x. x))

pub returns-clause-stops : goal.returns-clause-stops
returns-clause-stops g c =
    let h = c.reading.invariant in
    rw c.place-2.ensures (stops_now h.used (g.K.Keep.end c.reading.keep) (IsAtEnd (g.S.Source.left c.reading.input.0))
    (stop.TooLong (unit_of c.reading.reader).place) (inside h.used h.going, (let count = h.used.count in omega (arith, count, c.reading-test.false))) (λ objects x. x))

pub returns-in_err-used-clause-stops : goal.returns-in_err-used-clause-stops
returns-in_err-used-clause-stops g c =
    let h = c.reading.invariant in
    let keep = g.K.Keep in
    let source = g.S.Source.left c.fill.new.self.0 in
    let p = err_from_is_err_and c.from_residual.result c.from_residual.ensures.1 in
    let f = used_filled h.used source c.fill.new.self.1 c.in_default.ensures.fills in
    let piece = take c.min-most.result c.rest-rest.result.now in
    let was = subst (λ (n : ℕ). PutsPiece keep.made keep.held c.args.rid.now n (keep.end c.put_piece.new.keep)
    c.reading.keep c.put_piece.new.keep c.args.which f.used f.parts piece c.reading.taken c.put_piece.new.taken
    c.put_piece.new.reader (Err c.in_err-used.field-0.0)) (same_caller _ _ h.leaves.constants_stay)
    (c.in_err-used.ensures.puts c.args.which f.used f.parts f.read) in
    rw (p.1, p.2)
    (stops_at_piece f c.put_piece.new.keep (keep.end c.put_piece.new.keep) (IsAtEnd source) piece
    c.put_piece.new.reader c.put_piece.new.taken c.in_err-used.field-0.0 h.going
    (piece_is c.rest-rest.result.now c.fill.new.self.1 c.min-most.result c.reading.left c.rest-rest.ensures c.min-most.ensures)
    c.in_err-used.ensures.bytes was)

pub returns-in_err-used-clause-failed : goal.returns-in_err-used-clause-failed
returns-in_err-used-clause-failed g c =
    let h = c.reading.invariant in
    let keep = g.K.Keep in
    let p = err_from_is_err_and c.from_residual.result c.from_residual.ensures.1 in
    let piece = take c.min-most.result c.rest-rest.result.now in
    let was = subst (λ (n : ℕ). PutsPiece keep.made keep.held c.args.rid.now n (keep.end c.put_piece.new.keep)
    c.reading.keep c.put_piece.new.keep c.args.which h.used.used h.used.parts piece c.reading.taken c.put_piece.new.taken
    c.put_piece.new.reader (Err c.in_err-used.field-0.0)) (same_caller _ _ h.leaves.constants_stay)
    (c.in_err-used.ensures.puts c.args.which h.used.used h.used.parts h.used.read) in
    rw (p.1, p.2)
    (read_no_fault h.used c.put_piece.new.keep (keep.end c.put_piece.new.keep) (g.S.Source.faults c.args.input.now.0)
    (g.S.Source.faults c.fill.new.self.0) piece c.put_piece.new.reader c.put_piece.new.taken c.in_err-used.field-0.0 was)

pub used-requires : goal.used-requires
used-requires g c =
    let u = c.reading.invariant.used in
    let was = c.in_ok-used.ensures.puts c.args.which u.used u.parts u.read in
    let size = length-take c.min-most.result c.rest-rest.result.now in
    let same = ap (λ (l : List ℕ). length l) c.rest-rest.ensures in
    let count = was.2 in
    omega (arith, count, size, same)

pub overflow_sub-left : goal.overflow_sub-left
overflow_sub-left g c =
    let u = c.reading.invariant.used in
    let was = c.in_ok-used.ensures.puts c.args.which u.used u.parts u.read in
    let size = length-take c.min-most.result c.rest-rest.result.now in
    let most = c.min-most.ensures in
    let count = was.2 in
    omega (arith, count, size, most)

pub returns-in_err-finish-clause-stops : goal.returns-in_err-finish-clause-stops
returns-in_err-finish-clause-stops g c =
    let keep = g.K.Keep in
    let h = c.reading.invariant in
    let source = g.S.Source.left c.fill.new.self.0 in
    let f = used_filled h.used source c.fill.new.self.1 c.in_default.ensures.fills in
    let was = subst (λ (n : ℕ). PutsPiece keep.made keep.held c.args.rid.now n (keep.end c.put_piece.new.keep)
    c.reading.keep c.put_piece.new.keep c.args.which f.used f.parts (take c.min-most.result c.rest-rest.result.now)
    c.reading.taken c.put_piece.new.taken c.put_piece.new.reader (Ok c.in_ok-used.used))
    (same_caller _ _ h.leaves.constants_stay) (c.in_ok-used.ensures.puts c.args.which f.used f.parts f.read) in
    let u = used_piece f c.put_piece.new.keep c.rest-rest.result.now c.min-most.result c.in_ok-used.used
    c.put_piece.new.reader c.put_piece.new.taken (keep.end c.put_piece.new.keep) c.rest-rest.ensures c.min-most.ensures
    c.in_ok-used.ensures.bytes was in
    let source_is = ap (λ (source : g.row.S.Denot). g.S.Source.left source) c.used.ensures.source in
    let p = err_from_is_err_and c.from_residual-in_err-finish.result c.from_residual-in_err-finish.ensures.1 in
    let stops = subst (λ (n : ℕ). StopsPutting keep.made c.args.rid.now n (keep.end c.finish.new.keep) c.put_piece.new.keep
    c.finish.new.keep c.put_piece.new.taken.batcher c.in_err-finish.field-0.0)
    (same_caller _ _ (c.in_ok-used.ensures.leaves.constants_stay ∙ h.leaves.constants_stay)) c.in_err-finish.ensures.stops in
    rw (p.1, p.2, c.used.ensures.rest, source_is)
    (stops_last_put u c.finish.new.keep (keep.end c.finish.new.keep) (IsAtEnd source) c.in_err-finish.field-0.0
    (sym was.3 ∙ c.if-used.true) stops)

pub returns-then-used-clause-puts : goal.returns-then-used-clause-puts
returns-then-used-clause-puts g c =
    let keep = g.K.Keep in
    let h = c.reading.invariant in
    let source = g.S.Source.left c.fill.new.self.0 in
    let f = used_filled h.used source c.fill.new.self.1 c.in_default.ensures.fills in
    let was = subst (λ (n : ℕ). PutsPiece keep.made keep.held c.args.rid.now n (keep.end c.put_piece.new.keep)
    c.reading.keep c.put_piece.new.keep c.args.which f.used f.parts (take c.min-most.result c.rest-rest.result.now)
    c.reading.taken c.put_piece.new.taken c.put_piece.new.reader (Ok c.in_ok-used.used))
    (same_caller _ _ h.leaves.constants_stay) (c.in_ok-used.ensures.puts c.args.which f.used f.parts f.read) in
    let u = used_piece f c.put_piece.new.keep c.rest-rest.result.now c.min-most.result c.in_ok-used.used
    c.put_piece.new.reader c.put_piece.new.taken (keep.end c.put_piece.new.keep) c.rest-rest.ensures c.min-most.ensures
    c.in_ok-used.ensures.bytes was in
    let source_is = ap (λ (source : g.row.S.Denot). g.S.Source.left source) c.used.ensures.source in
    let puts = subst (λ (n : ℕ). PutsAll keep.made keep.held c.args.rid.now n c.put_piece.new.keep
    c.finish.new.keep c.put_piece.new.taken.batcher)
    (same_caller _ _ (c.in_ok-used.ensures.leaves.constants_stay ∙ h.leaves.constants_stay)) c.in_ok-finish.ensures.puts in
    rw (c.used.ensures.rest, source_is)
    (puts_section u c.finish.new.keep _ (sym was.3 ∙ c.if-used.true) puts refl refl)

pub reading-smaller : goal.reading-smaller
reading-smaller g c =
    let u = c.reading.invariant.used in
    let was = c.in_ok-used.ensures.puts c.args.which u.used u.parts u.read in
    let size = length-take c.min-most.result c.rest-rest.result.now in
    let most = c.min-most.ensures in
    let count = was.4 c.if-used.false in
    let some = some_left c.rest-rest.result.now c.is_empty.result c.is_empty.ensures c.if-is_empty.false in
    let test = c.reading-test.true in
    omega (arith, count, size, most, some, test)

pub reading-preserved : goal.reading-preserved
reading-preserved g c =
    let keep = g.K.Keep in
    let h = c.reading.invariant in
    let source = g.S.Source.left c.fill.new.self.0 in
    let f = used_filled h.used source c.fill.new.self.1 c.in_default.ensures.fills in
    let was = subst (λ (n : ℕ). PutsPiece keep.made keep.held c.args.rid.now n (keep.end c.put_piece.new.keep)
    c.reading.keep c.put_piece.new.keep c.args.which f.used f.parts (take c.min-most.result c.rest-rest.result.now)
    c.reading.taken c.put_piece.new.taken c.put_piece.new.reader (Ok c.in_ok-used.used))
    (same_caller _ _ h.leaves.constants_stay) (c.in_ok-used.ensures.puts c.args.which f.used f.parts f.read) in
    let u = used_piece f c.put_piece.new.keep c.rest-rest.result.now c.min-most.result c.in_ok-used.used
    c.put_piece.new.reader c.put_piece.new.taken (keep.end c.put_piece.new.keep) c.rest-rest.ensures c.min-most.ensures
    c.in_ok-used.ensures.bytes was in
    let source_is = ap (λ (source : g.row.S.Denot). g.S.Source.left source) c.used.ensures.source in
    record {
      leaves = leaves_along keep.constants keep.loan keep.faults keep.held c.args.rid.now c.args.keep.now c.reading.keep
          c.put_piece.new.keep h.leaves c.in_ok-used.ensures.leaves;
      input = rw c.used.ensures.source (loan_along g.S.Source.loan g.S.Source.faults c.args.input.now.0 c.reading.input.0
          c.fill.new.self.0 h.input c.in_default.ensures.loan c.in_default.ensures.cause.later);
      used = rw (c.used.ensures.rest, source_is) u;
      going = sym was.3 ∙ c.if-used.false;
    }
