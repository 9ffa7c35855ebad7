use Rattle.std.proofs.Common.{refl}
use Rattle.std.proofs.lemmas.Result.{err_from_is_err_and}
use Rattle.gossip_wire.proofs.WireReads.{refused_on, turn_stops, turned_on}
use Rattle.gossip_wire.proofs.wire.Wire.read_on.Goals as goal

pub returns-in_err-used-clause-err : goal.returns-in_err-used-clause-err
returns-in_err-used-clause-err g c =
    let self = c.args.self.now in
    let p = err_from_is_err_and c.from_residual.result c.from_residual.ensures.1 in
    rw (p.1, p.2)
    (turn_stops c.in_err-used.field-0.0 self.reader self.window c.front-piece.result.now self.place self.budget (g.L.Source.left self.link) _
    c.front-piece.ensures refl c.in_err-used.ensures.err)

pub returns-clause-ok : goal.returns-clause-ok
returns-clause-ok g c =
    let self = c.args.self.now in
    rw c.pass.ensures
    (turned_on self.reader c.turn.new.reader self.window c.front-piece.result.now self.place self.budget c.in_ok-used.used c.in_ok-used.unread (g.L.Source.left self.link)
    c.front-piece.ensures c.in_ok-used.ensures.ok c.frame_of.result c.frame_of.ensures.ok)

pub returns-clause-err : goal.returns-clause-err
returns-clause-err g c =
    let self = c.args.self.now in
    rw c.pass.ensures
    (refused_on self.reader c.turn.new.reader self.window c.front-piece.result.now self.place self.budget c.in_ok-used.used c.in_ok-used.unread (g.L.Source.left self.link)
    c.front-piece.ensures c.in_ok-used.ensures.ok c.frame_of.result c.frame_of.ensures.err)
