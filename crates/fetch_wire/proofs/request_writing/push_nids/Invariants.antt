use Rattle.std.proofs.Common.{◌≡◌, ◌++◌, take}
use Rattle.std.specs.List.{flat_map}
use Rattle.fetch_wire.specs.Requests.{nid_text}
use Rattle.fetch_wire.proofs.request_writing.push_nids.Given as goal

abbrev pub invariant-nids : goal.invariant-nids
invariant-nids l =
    l.bytes.items ≡ l.initial.bytes.items ++ flat_map nid_text (take l.nid-index l.nids)
