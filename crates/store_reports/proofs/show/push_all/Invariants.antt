use Rattle.std.proofs.Common.{List, take}
use Rattle.std.specs.Prelude.{Contains}
use Rattle.rad_base.specs.declared.names.Rid.{Rid}
use Rattle.repo_entries.specs.Items.{Item}
use Rattle.object_store.specs.Shown.{ShowsRepository}
use Rattle.object_store.specs.Stores.{StandsFor}
use Rattle.store_reports.specs.Parts.{AddsAll}
use Rattle.store_reports.proofs.show.push_all.Given as goal

abbrev pub invariant-loop-rid : goal.invariant-loop-rid
invariant-loop-rid g l = (items : List Item) → StandsFor l.store items
    → ((rid : Rid) → Contains l.rids rid → ShowsRepository rid items)
    → AddsAll items (take l.rid-index l.rids) l.initial.text.items l.text.items
