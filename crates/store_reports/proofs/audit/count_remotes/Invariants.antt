use Rattle.std.proofs.Common.{◌≡◌, ◌*◌, ◌^◌, ◌≤◌, List, take}
use Rattle.std.specs.Prelude.{Contains, sum_by}
use Rattle.rad_base.specs.declared.names.Rid.{Rid}
use Rattle.repo_entries.specs.Items.{Item}
use Rattle.object_store.specs.Shown.{ShowsRepository}
use Rattle.object_store.specs.Stores.{StandsFor}
use Rattle.store_reports.specs.Reports.{remote_count}
use Rattle.store_reports.proofs.audit.count_remotes.Given as goal

abbrev pub invariant-loop-rid : goal.invariant-loop-rid
invariant-loop-rid g l = (l.count ≤ l.rid-index * 2 ^ 64) × ((items : List Item) → StandsFor l.store items
    → ((rid : Rid) → Contains l.rids rid → ShowsRepository rid items)
    → l.count ≡ sum_by (remote_count items) (take l.rid-index l.rids))
