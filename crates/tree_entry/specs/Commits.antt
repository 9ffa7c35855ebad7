-- What is read of a commit.
use Rattle.std.specs.Prelude.{◌≡◌, ◌↔◌, ℕ, List, [], Option, None, Some, false}
use Rattle.rad_base.specs.declared.names.Oid.{Oid}
use Rattle.git_object.specs.Grammar.{Commit, SpellsCommit}
use Rattle.commit_graph.specs.Objects.{ObjectMap}
use Rattle.tree_entry.specs.Entries.{HasCommit}
use Rattle.tree_entry.specs.declared.commits.CommitTree.{CommitTree}

-- the tree of a commit, and whether it has a parent
pub record IsTreeOf (commit : Commit) (found : CommitTree) : Type 0 where
  pub tree : commit.tree ≡ found.tree
  pub first : (found.has_parent ≡ false) ↔ (commit.parents ≡ [])

-- what the bytes of a commit show; nothing where they are not a commit's
abbrev pub ReadsCommit : List ℕ → Option CommitTree → Type 0
ReadsCommit bytes None = (commit : Commit) → SpellsCommit commit bytes → ⊥
ReadsCommit bytes (Some found) = (commit : Commit) × SpellsCommit commit bytes × IsTreeOf commit found

-- what the commit of a name shows; nothing where there is none in its grammar
abbrev pub ShowsCommit : ObjectMap → Oid → Option CommitTree → Type 0
ShowsCommit objects oid None = (commit : Commit) → HasCommit objects oid commit → ⊥
ShowsCommit objects oid (Some found) = (commit : Commit) × HasCommit objects oid commit × IsTreeOf commit found
