-- What a keep in memory has made where a call is refused.
use Rattle.std.proofs.Common.{◌≡◌, List, [], ◌∷◌, ◌++◌, refl, sym, ap, ◌∙◌, inl, Some}
use Rattle.std.specs.Prelude.{map}
use Rattle.std.proofs.lemmas.List.{append-nil, map-append}
use Rattle.rad_base.specs.declared.names.Rid.{Rid}
use Rattle.repo_slice.specs.declared.keep_fault.KeepFault.TheVariants as fault
use Rattle.repo_slice.specs.declared.mem_keep.Made.{Made}
use Rattle.repo_slice.specs.declared.mem_keep.Made.TheVariants as made
use Rattle.repo_slice.specs.declared.mem_keep.MemKeep.{MemKeep}
use Rattle.repo_entries.specs.Items.{Item, missed}
use Rattle.repo_entries.specs.declared.entry.Left.TheVariants.{Nothing}
use Rattle.repo_slice.specs.Keeps.{StopsIn}
use Rattle.repo_slice.specs.MemKeeps.{items_of, item_made}

no_memory_is_not_full : fault.NoMemory ≡ fault.Full → ⊥
no_memory_is_not_full e = cc e

a_disk_is_not_full : fault.DiskFault ≡ fault.Full → ⊥
a_disk_is_not_full e = cc e

-- memory was refused, and nothing was made
pub stops_for_memory : (rid : Rid) (old new : MemKeep) (item : Item) (more : List Item) → new.made.items ≡ old.made.items
    → StopsIn (λ (keep : MemKeep) (origin : Unit {0}) (before : List Item). before ≡ items_of keep) rid 1 8 old new (item ∷ more) fault.NoMemory
stops_for_memory rid old new item more same = (
  [],
  record {
    done = [];
    rest = item ∷ more;
    all = refl;
    left = Nothing;
    doubt = inl refl;
    full = λ e. absurd (no_memory_is_not_full e);
    history_is = refl;
  },
  λ origin before h. append-nil before ∙ h ∙ ap (λ (made : List Made). map item_made made) (sym same),
)

-- the call was missed
pub stops_missed : (rid : Rid) (old new : MemKeep) (item : Item) (more : List Item) → new.made.items ≡ old.made.items ++ made.Missed rid ∷ []
    → StopsIn (λ (keep : MemKeep) (origin : Unit {0}) (before : List Item). before ≡ items_of keep) rid 1 8 old new (item ∷ more) fault.DiskFault
stops_missed rid old new item more one = (
  missed (Some rid) Nothing 1 ∷ [],
  record {
    done = [];
    rest = item ∷ more;
    all = refl;
    left = Nothing;
    doubt = inl refl;
    full = λ e. absurd (a_disk_is_not_full e);
    history_is = refl;
  },
  λ origin before h.
      ap (λ (l : List Item). l ++ missed (Some rid) Nothing 1 ∷ []) h
      ∙ sym (map-append item_made old.made.items (made.Missed rid ∷ []))
      ∙ ap (λ (made : List Made). map item_made made) (sym one),
)
