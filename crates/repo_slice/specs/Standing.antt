-- Which remotes stand, and which stand once some are replaced or added.
use Rattle.std.specs.Prelude.{◌≡◌, ℕ, List, [], ◌∷◌, Bool, count_by, Option}
use Rattle.std.specs.Option.{is_some, option_or}
use Rattle.std.specs.BTreeMap.{insert_entry}
use Rattle.rad_base.specs.declared.names.Nid.{Nid}
use Rattle.rad_base.specs.declared.names.Oid.{Oid}
use Rattle.rad_base.specs.Order.{IsRising, commit_of, nid_cmp}

-- the commit of a node once some remotes are replaced or added
abbrev pub next_commit : List (Nid × Oid) → List (Nid × Oid) → Nid → Option Oid
next_commit old advanced node = option_or (commit_of advanced node) (commit_of old node)

-- the new remotes are the old ones with exactly the advanced ones replaced or added
pub record Replaces (old advanced new : List (Nid × Oid)) : Type 0 where
  pub rising : IsRising new
  pub commits : (node : Nid) → commit_of new node ≡ next_commit old advanced node

-- a node has a remote once some are replaced or added
abbrev pub has_next : List (Nid × Oid) → List (Nid × Oid) → Nid → Bool
has_next old advanced node = is_some (next_commit old advanced node)

-- how many of the delegates have a remote once some are replaced or added
abbrev pub delegates_in : List (Nid × Oid) → List (Nid × Oid) → List Nid → ℕ
delegates_in old advanced delegates = count_by (has_next old advanced) delegates

-- the remotes with each of these put among them, in place of one of its key
abbrev pub replaced : List (Nid × Oid) → List (Nid × Oid) → List (Nid × Oid)
replaced old [] = old
replaced old (p ∷ advanced) = replaced (insert_entry nid_cmp old p.0 p.1) advanced
