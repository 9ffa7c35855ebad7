use Rattle.std.proofs.Common.{arith}
use Rattle.rad_base.proofs.OneFront.{front_of}
use Rattle.gossip_wire.proofs.fields.bytes_front.Goals as goal

pub returns : goal.returns
returns c =
    let parts = c.split_at.ensures in
    let front = front_of c.args.size c.args.bytes.now c.split_at.result.0.now c.split_at.result.1.now (omega arith) (λ i. omega (arith, c.type_inv.bytes i)) parts.front parts.back in
    record { whole = front.whole; split = front.split }
