-- A table of which tips lie in the histories of which, and what it makes of votes.
use Rattle.std.specs.Prelude.{◌≡◌, ℕ, Bool, true, false, not, ◌&&◌, nat_le, List, filter, count_by, Contains, ◌↔◌, IsTrue, Option, Some, None}
use Rattle.std.specs.Option.{is_some}
use Rattle.std.specs.List.{list_any, list_all}
use Rattle.std.specs.BTreeMap.{BTreeMap, get}
use Rattle.std.specs.BTreeSet.{BTreeSet, contains}
use Rattle.rad_base.specs.declared.names.Oid.{Oid}
use Rattle.rad_base.specs.Order.{oid_cmp}
use Rattle.commit_graph.specs.Objects.{ObjectMap}
use Rattle.commit_graph.specs.Histories.{InHistory}
use Rattle.canonical_head.specs.declared.table.Table.{Table}

-- the set, where there is one, has the name
abbrev pub in_set : Option (BTreeSet Oid) → Oid → Bool
in_set None oid = false
in_set (Some set) oid = contains oid_cmp set oid

-- the first lies in the history of the second, as the table tells
abbrev pub tells : Table → Oid → Oid → Bool
tells table old new = in_set (get oid_cmp table.rows new) old

-- of the names the set has those in the history of the commit
abbrev pub IsRow : ObjectMap → List Oid → Oid → BTreeSet Oid → Type 0
IsRow objects tips new set = (old : Oid) → Contains tips old → IsTrue (contains oid_cmp set old) ↔ InHistory objects old new

-- the rows that are there are right, and there is one for each of the commits
pub record AreRows (m : ObjectMap) (tips news : List Oid) (rows : BTreeMap Oid (BTreeSet Oid)) : Type 0 where
  pub right : (new : Oid) (set : BTreeSet Oid) → get oid_cmp rows new ≡ Some set → IsRow m tips new set
  pub there : (new : Oid) → Contains news new → is_some (get oid_cmp rows new) ≡ true

-- the table tells the histories of some commits, as far as they have tips
abbrev pub IsTableOf : ObjectMap → List Oid → List Oid → Table → Type 0
IsTableOf objects tips news table =
    (old new : Oid) → Contains tips old → Contains news new → IsTrue (tells table old new) ↔ InHistory objects old new

-- the table tells the histories of the tips
abbrev pub IsTable : ObjectMap → List Oid → Table → Type 0
IsTable objects tips table = IsTableOf objects tips tips table

-- how many of the tips have the commit in their history
abbrev pub votes_in : Table → List Oid → Oid → ℕ
votes_in table tips oid = count_by (λ tip. tells table oid tip) tips

-- the tips that have votes enough
abbrev pub candidates_in : Table → List Oid → ℕ → List Oid
candidates_in table tips threshold = filter (λ oid. nat_le threshold (votes_in table tips oid)) tips

-- each of the candidates lies in the history of this one
abbrev pub is_top : Table → List Oid → Oid → Bool
is_top table candidates oid = list_all (λ other. tells table other oid) candidates

-- neither lies in the history of the other
abbrev pub is_beside : Table → Oid → Oid → Bool
is_beside table a b = not (tells table a b) && not (tells table b a)

-- one of the candidates is beside this one
abbrev pub has_rival : Table → List Oid → Oid → Bool
has_rival table candidates oid = list_any (λ other. is_beside table oid other) candidates
