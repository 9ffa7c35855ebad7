use Rattle.std.proofs.Common.{◌++◌, length, w16, w64}
use Rattle.std.specs.Int.{to_be_bytes}
use Rattle.gossip_wire.proofs.Appended.{three_behind}
use Rattle.gossip_wire.proofs.writing.push_subscription.Goals as goal

pub returns : goal.returns
returns c =
    let same = c.as_slice-filter.ensures in
    three_behind c.args.out.now.items c.push_two.new.out.items c.extend_from_slice.new.self.items c.push_two_eights.new.out.items
    (to_be_bytes w16 (length c.args.filter.now)) c.args.filter.now (to_be_bytes w64 c.args.from ++ to_be_bytes w64 c.args.to)
    (rw same at c.in_ok-push_two.ensures) (rw same at c.in_ok-extend_from_slice.ensures.items) c.in_ok-push_two_eights.ensures
