-- Which repositories a store shows.
use Rattle.std.specs.Prelude.{◌≡◌, ◌⊎◌, ◌&&◌, Bool, false, not, eqb, List, [], ◌∷◌, length, Option, None, Some}
use Rattle.std.specs.Option.{is_none}
use Rattle.std.specs.Borrow.{Bor}
use Rattle.rad_base.specs.Order.{RisesBy, rid_cmp}
use Rattle.rad_base.specs.declared.names.Rid.{Rid}
use Rattle.repo_entries.specs.Items.{Item, claim, put, install, heard, missed, refused}
use Rattle.repo_slice.specs.Slices.{objects_of, state_of}
use Rattle.repo_slice.specs.declared.slice.Slice.{Slice}
use Rattle.legal_history.specs.Replays.{nothing_stands, replay, replayed_state}
use Rattle.object_store.specs.declared.repository.Repository.{Repository}

-- the entry is a put or an install of the repository
abbrev pub Concerns : Rid → Item → Type 0
Concerns rid (claim of caller) = ⊥
Concerns rid (put of batch caller) = of ≡ rid
Concerns rid (install of id remotes caller) = of ≡ rid
Concerns rid (heard message caller) = ⊥
Concerns rid (missed of left caller) = ⊥
Concerns rid (refused of why caller) = ⊥

-- one of the entries is
abbrev pub ShowsRepository : Rid → List Item → Type 0
ShowsRepository rid [] = ⊥
ShowsRepository rid (item ∷ items) = Concerns rid item ⊎ ShowsRepository rid items

-- the slice has no object and no identity
abbrev pub IsBare : Slice → Type 0
IsBare slice = (objects_of slice ≡ nothing_stands.objects) × ((state_of slice).id ≡ None)

-- the same, as a test
abbrev pub is_bare : Slice → Bool
is_bare slice = eqb (length slice.objects.objects) 0 && is_none (state_of slice).id

-- the repository is known, and its slice has an object or an identity, as a test
abbrev pub is_shown : Option Repository → Bool
is_shown None = false
is_shown (Some r) = not (is_bare r.slice)

-- each name is below the next
abbrev pub AreRisingRids : List Rid → Type 0
AreRisingRids rids = RisesBy (λ rid. rid) rid_cmp rids

-- what the entries make of the repository; none exactly where no put or install names it
abbrev pub IsShownAs : Rid → List Item → Option (Bor Slice) → Type 0
IsShownAs rid items None = ShowsRepository rid items → ⊥
IsShownAs rid items (Some slice) = ShowsRepository rid items ×
    (objects_of slice.now ≡ (replay rid items).objects)
    × (state_of slice.now ≡ replayed_state rid items)
