use Rattle.std.proofs.Common.{arith, sym}
use Rattle.std.proofs.lemmas.List.{length-take-le, take_more}
use Rattle.routing.proofs.Links.{links_push}
use Rattle.routing.proofs.planned.links_of.Goals as goal

pub loop-link-preserved : goal.loop-link-preserved
loop-link-preserved c =
    links_push _ _ _ c.loop-link.link c.loop-link.links c.add_link.new.links
    (take_more c.args.peers.now c.loop-link.link _ c.loop-link-test.true)
    (sym (length-take-le c.loop-link.link c.args.peers.now (omega arith)))
    c.in_ok-add_link.ensures c.loop-link.invariant
