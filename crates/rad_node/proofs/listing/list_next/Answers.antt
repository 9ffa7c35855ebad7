use Rattle.std.proofs.Common.{tests, rules}
use Rattle.std.proofs.lemmas.Result.{err_from_is_err_and}
use Rattle.rad_node.proofs.Listings.{listed_inside, lists_end, took_none, turn_broke, turn_on, turn_past}
use Rattle.rad_node.proofs.listing.list_next.Goals as goal

pub returns-in-None-clause-ok : goal.returns-in-None-clause-ok
returns-in-None-clause-ok g c = λ old h.
    let took = took_none _ _ c.in-Ok.n c.take.new.into c.if-n-eq0.true c.in-Ok.ensures.bytes.0 in
    lists_end old _ _ c.args.reader.now c.args.text.now.items c.args.room _ h took (c.in-Ok.ensures.bytes.1 c.if-n-eq0.true (search (tests, rules))) c.in-None.ensures.none

pub returns-in-Some-clause-err : goal.returns-in-Some-clause-err
returns-in-Some-clause-err g c = λ old h.
    let took = took_none _ _ c.in-Ok.n c.take.new.into c.if-n-eq0.true c.in-Ok.ensures.bytes.0 in
    listed_inside old _ _ c.args.reader.now c.args.text.now.items c.args.room _ c.in-Some.place h took (c.in-Ok.ensures.bytes.1 c.if-n-eq0.true (search (tests, rules))) c.in-Some.ensures.some

pub returns-in_err-list_piece-clause-err : goal.returns-in_err-list_piece-clause-err
returns-in_err-list_piece-clause-err g c =
    let p = err_from_is_err_and c.from_residual.result c.from_residual.ensures.1 in
    rw (p.1, p.2) (λ old h.
    turn_broke old _ _ c.args.reader.now c.args.text.now.items c.take.new.into c.in-Ok.n c.args.room c.min-read.result _ c.min-read.ensures c.in-Ok.ensures.bound.0 c.in-Ok.ensures.bytes.0 h
    c.in_err-list_piece.field-0.0 (c.in_err-list_piece.ensures.err h.bytes h.frames h.read))

pub returns-then-read-n-clause-err : goal.returns-then-read-n-clause-err
returns-then-read-n-clause-err g c = λ old h.
    turn_past old _ _ c.args.reader.now c.args.text.now.items c.take.new.into c.in-Ok.n c.args.room c.min-read.result _ c.min-read.ensures c.in-Ok.ensures.bound.0 c.in-Ok.ensures.bytes.0 h
    c.list_piece.new.reader c.list_piece.new.text.items (c.in_ok-list_piece.ensures.ok h.bytes h.frames h.read) c.if-read-n.true

pub returns-clause-ok : goal.returns-clause-ok
returns-clause-ok g c = λ old h.
    turn_on old _ _ c.args.reader.now c.args.text.now.items c.take.new.into c.in-Ok.n c.args.room c.min-read.result _ c.min-read.ensures c.in-Ok.ensures.bound.0 c.in-Ok.ensures.bytes.0 h
    c.list_piece.new.reader c.list_piece.new.text.items (c.in_ok-list_piece.ensures.ok h.bytes h.frames h.read) c.list_piece.ensures.bytes c.if-n-eq0.false c.if-read-n.false
