use Rattle.std.proofs.Common.{sym, ◌∙◌, arith}
use Rattle.rad_base.proofs.BigEndian.{one_two}
use Rattle.rad_base.proofs.OneFront.{if_none}
use Rattle.gossip_wire.specs.Fields.{zeros_text}
use Rattle.gossip_wire.proofs.MessageTexts.{no_ping}
use Rattle.gossip_wire.proofs.reading.read_ping.Goals as goal

pub returns-in_err-zeros-clause-none : goal.returns-in_err-zeros-clause-none
returns-in_err-zeros-clause-none c =
    let a = c.in_ok-pong.ensures.found in
    if_none c.from_residual-in_err-zeros.result _
    (no_ping c.args.bytes.now (λ pong zeros low small e.
    c.in_err-zeros.ensures.none zeros small (one_two c.in_ok-pong.pong pong c.in_ok-pong.rest.now (zeros_text zeros) a.0 (omega (arith, low)) (sym a.1 ∙ e)).1))
