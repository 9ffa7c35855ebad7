use Rattle.std.proofs.Common.{◌≡◌, take}
use Rattle.std.specs.BTreeMap.{get}
use Rattle.std.specs.List.{filter}
use Rattle.rad_base.specs.Order.{rid_cmp}
use Rattle.rad_base.specs.declared.names.Rid.{Rid}
use Rattle.object_store.specs.Shown.{is_shown}
use Rattle.object_store.proofs.shown.shown_names.Given as goal

abbrev pub invariant-loop-rid : goal.invariant-loop-rid
invariant-loop-rid l = l.shown ≡ filter (λ (rid : Rid). is_shown (get rid_cmp l.all rid)) (take l.rid-index l.rid-items)
