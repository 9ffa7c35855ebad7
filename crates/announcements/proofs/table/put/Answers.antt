use Rattle.std.specs.BTreeMap.{get}
use Rattle.announcements.specs.Held.{map_cmp}
use Rattle.announcements.proofs.Entries.{done, is_there, keeps}
use Rattle.announcements.proofs.table.put.Goals as goal

pub returns : goal.returns
returns c =
    keeps c.args.places.now c.insert-put.new.self c.args.key c.args.kept
    (done c.insert-put.result c.insert-put.ensures.updates c.insert-put.ensures.absent
    (is_there (get map_cmp c.args.places.now c.args.key) c.requires))
