-- What a store has of a repository, by the entries that it stands for.
use Rattle.std.proofs.Common.{◌≡◌, List, Option, None, Some, sym, ap}
use Rattle.std.specs.BTreeMap.{get}
use Rattle.rad_base.specs.Order.{rid_cmp}
use Rattle.rad_base.specs.declared.names.Rid.{Rid}
use Rattle.repo_entries.specs.Items.{Item}
use Rattle.legal_history.specs.Replays.{claimant}
use Rattle.object_store.specs.Held.{claimant_of, held_at, held_in, held_of, held_standing}
use Rattle.object_store.specs.Repositories.{StandsKnown}
use Rattle.object_store.specs.Stores.{StandsFor}
use Rattle.object_store.specs.declared.repository.Repository.{Repository}
use Rattle.object_store.specs.declared.store.Store.{Store}
use Rattle.object_store.proofs.Standing.{claimant_told}

held_known : (r : Option Repository) (rid : Rid) (items : List Item) → StandsKnown r rid items → held_of rid r ≡ held_in rid items
held_known None rid items h = ap (held_standing rid) (sym h.0)
held_known (Some r) rid items h = (λ i. record { state = h.state i; objects = Some (h.objects i) })

-- what a store has is what the entries make
pub held_is : {D : Type 0} (store : Store D) (rid : Rid) (items : List Item) → StandsFor store items → held_at store rid ≡ held_in rid items
held_is store rid items s = held_known (get rid_cmp store.repositories rid) rid items (s.each rid)

-- who claimed is who the entries tell
pub claimant_is : {D : Type 0} (store : Store D) (rid : Rid) (items : List Item) → StandsFor store items → claimant_of store rid ≡ claimant rid items
claimant_is store rid items s = claimant_told (get rid_cmp store.repositories rid) rid items (s.each rid)
