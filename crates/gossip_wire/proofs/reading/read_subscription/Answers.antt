use Rattle.std.proofs.Common.{ℕ, List, sym, subst, arith}
use Rattle.gossip_wire.specs.Messages.{IsOf}
use Rattle.gossip_wire.specs.declared.message.Message.TheVariants.{Subscribe}
use Rattle.gossip_wire.proofs.MessageTexts.{subscribed}
use Rattle.gossip_wire.proofs.reading.read_subscription.Goals as goal

pub returns-clause-found : goal.returns-clause-found
returns-clause-found c =
    let n = c.in-Some.ensures.found in
    let a = c.in-Some-eight_bytes_front.ensures.found in
    let b = c.in-Some-eight_bytes_front-2.ensures.found in
    let from = c.in-Some-eight_bytes_front.from in
    let to = c.in-Some-eight_bytes_front-2.to in
    let good = c.is_filter_size.ensures.yes (grind arith) in
    let same = c.from-size.ensures in
    let filter = c.bytes_front.result.0.now in
    subst (λ (l : List ℕ). IsOf 8 c.args.bytes.now (Subscribe l from to)) (sym c.in_ok-filter.ensures)
    (subscribed c.in-Some.size from to c.args.bytes.now c.in-Some.rest.now filter c.bytes_front.result.1.now c.in-Some-eight_bytes_front.rest.now c.in-Some-eight_bytes_front-2.field-0-1.now
    (rw same at good) (rw same at c.bytes_front.ensures.whole) a.0 b.0
    (record { count = n.1; long = omega (arith, same); filter_is = c.bytes_front.ensures.split; first = a.1; second = b.1 }))
