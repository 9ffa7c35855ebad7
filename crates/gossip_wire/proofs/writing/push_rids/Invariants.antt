use Rattle.std.proofs.Common.{◌≡◌, ◌++◌, take}
use Rattle.std.specs.List.{flat_map}
use Rattle.gossip_wire.specs.Fields.{rid_text}
use Rattle.gossip_wire.proofs.writing.push_rids.Given as goal

abbrev pub invariant-rids : goal.invariant-rids
invariant-rids l = l.out.items ≡ l.initial.out.items ++ flat_map rid_text (take l.rid-index l.rids)
