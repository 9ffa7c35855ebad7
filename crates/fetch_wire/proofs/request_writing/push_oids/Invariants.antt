use Rattle.std.proofs.Common.{◌≡◌, ◌++◌, take}
use Rattle.std.specs.List.{flat_map}
use Rattle.fetch_wire.specs.Requests.{oid_text}
use Rattle.fetch_wire.proofs.request_writing.push_oids.Given as goal

abbrev pub invariant-oids : goal.invariant-oids
invariant-oids l =
    l.bytes.items ≡ l.initial.bytes.items ++ flat_map oid_text (take l.oid-index l.oids)
