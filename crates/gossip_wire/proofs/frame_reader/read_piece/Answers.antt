use Rattle.std.proofs.Common.{◌≡◌, ◌-◌, length, take, drop, arith, length-drop}
use Rattle.std.proofs.lemmas.List.{take_all}
use Rattle.std.proofs.lemmas.Result.{err_from_is_err_and}
use Rattle.gossip_wire.proofs.FramesFed.{breaks_after, gave_more, refused}
use Rattle.gossip_wire.proofs.frame_reader.read_piece.Goals as goal

pub pieces-preserved : goal.pieces-preserved
pieces-preserved c =
    let size = length-drop c.pieces.used c.args.piece.now in
    let all : take (length c.args.piece.now - c.pieces.used) (drop c.pieces.used c.args.piece.now) ≡ drop c.pieces.used c.args.piece.now =
    take_all (length c.args.piece.now - c.pieces.used) (drop c.pieces.used c.args.piece.now) (omega arith) in
    gave_more c.args.reader.now c.pieces.reader c.turn.new.reader c.args.piece.now c.pieces.used c.in_ok-n.n c.in_ok-n.unread c.pieces.frames.items c.add.new.frames.items
    c.pieces.invariant (rw all at c.in_ok-n.ensures.ok) c.in_ok-add.ensures.ok

pub returns-in_err-n-clause-err : goal.returns-in_err-n-clause-err
returns-in_err-n-clause-err c =
    let size = length-drop c.pieces.used c.args.piece.now in
    let all : take (length c.args.piece.now - c.pieces.used) (drop c.pieces.used c.args.piece.now) ≡ drop c.pieces.used c.args.piece.now =
    take_all (length c.args.piece.now - c.pieces.used) (drop c.pieces.used c.args.piece.now) (omega arith) in
    let h = breaks_after c.args.reader.now c.pieces.reader c.args.piece.now c.pieces.used c.pieces.frames.items c.pieces.invariant in
    let p = err_from_is_err_and c.from_residual.result c.from_residual.ensures.1 in
    rw (p.1, p.2) (h c.in_err-n.field-0.0 (rw all at c.in_err-n.ensures.err))

pub returns-in_err-add-clause-err : goal.returns-in_err-add-clause-err
returns-in_err-add-clause-err c =
    let size = length-drop c.pieces.used c.args.piece.now in
    let all : take (length c.args.piece.now - c.pieces.used) (drop c.pieces.used c.args.piece.now) ≡ drop c.pieces.used c.args.piece.now =
    take_all (length c.args.piece.now - c.pieces.used) (drop c.pieces.used c.args.piece.now) (omega arith) in
    let p = err_from_is_err_and c.from_residual-in_err-add.result c.from_residual-in_err-add.ensures.1 in
    rw (p.1, p.2)
    (refused c.args.reader.now c.pieces.reader c.turn.new.reader c.args.piece.now c.pieces.used c.in_ok-n.n c.in_ok-n.unread c.pieces.frames.items c.add.new.frames.items
    c.pieces.invariant (rw all at c.in_ok-n.ensures.ok) c.in_err-add.field-0.0 c.in_err-add.ensures.err)
