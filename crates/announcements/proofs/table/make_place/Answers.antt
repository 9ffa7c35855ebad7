use Rattle.std.proofs.Common.{◌≡◌, Option, Some, None}
use Rattle.std.specs.BTreeMap.{get}
use Rattle.announcements.specs.Held.{map_cmp}
use Rattle.announcements.proofs.Entries.{emptied, is_absent}
use Rattle.announcements.proofs.table.make_place.Goals as goal

pub returns-in_ok-insert-clause-kept : goal.returns-in_ok-insert-clause-kept
returns-in_ok-insert-clause-kept c =
    emptied c.args.places.now c.insert.new.self c.args.key c.in_ok-insert.ensures.updates
    (is_absent (get map_cmp c.args.places.now c.args.key) c.contains_key.result c.contains_key.ensures c.if-not-contains_key.true)
