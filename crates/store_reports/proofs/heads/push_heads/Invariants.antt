use Rattle.std.proofs.Common.{◌≡◌, List, take}
use Rattle.repo_entries.specs.Items.{Item}
use Rattle.object_store.specs.Stores.{StandsFor}
use Rattle.store_reports.specs.Parts.{AddsHeads}
use Rattle.store_reports.proofs.heads.push_heads.Given as goal

abbrev pub invariant-loop-rid : goal.invariant-loop-rid
invariant-loop-rid g l = (l.store ≡ l.initial.store) × ((items : List Item) → StandsFor l.initial.store items
    → AddsHeads l.initial.store.keyring items (take l.rid-index l.rids) l.initial.text.items l.text.items)
