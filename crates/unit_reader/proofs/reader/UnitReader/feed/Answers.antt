use Rattle.std.proofs.Common.{◌≡◌, ◌-◌, true, length, take, drop, rules, sym, ◌∙◌, inl, inr, arith, length-drop}
use Rattle.std.proofs.lemmas.List.{take_all}
use Rattle.unit_reader.proofs.Readings.{fed_now, read_none, read_on}
use Rattle.unit_reader.proofs.reader.UnitReader.feed.Goals as goal

pub pieces-init : goal.pieces-init
pieces-init g c = rw c.requires (read_none g.U.Units.shut g.U.Units.judge c.args.self.now.0 c.args.self.now.1 c.args.piece.now)

pub pieces-preserved : goal.pieces-preserved
pieces-preserved g c =
    let size = length-drop c.pieces.used c.args.piece.now in
    let all : take (length c.args.piece.now - c.pieces.used) (drop c.pieces.used c.args.piece.now) ≡ drop c.pieces.used c.args.piece.now =
    take_all (length c.args.piece.now - c.pieces.used) (drop c.pieces.used c.args.piece.now) (omega arith) in
    read_on c.pieces.invariant (rw all at c.in_ok-n.ensures) c.add.new.items.items (search rules)

pub returns : goal.returns
returns g c =
    let within = c.pieces.invariant.within in
    let is : c.pieces.used ≡ length c.args.piece.now = omega arith in
    fed_now c.pieces.invariant (inl is)

pub returns-then-is_shut : goal.returns-then-is_shut
returns-then-is_shut g c =
    let shut : g.U.Units.shut c.pieces.self.0 ≡ true = rw (← c.self.view_is) (sym c.is_shut.ensures ∙ c.if-is_shut.true) in
    fed_now c.pieces.invariant (inr shut)
