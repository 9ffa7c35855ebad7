-- Entries of trees, and of the trees of commits.
use Rattle.std.specs.Prelude.{◌≡◌, ℕ, List, Contains, Option, None, Some}
use Rattle.rad_base.specs.declared.names.Oid.{Oid}
use Rattle.git_object.specs.Grammar.{Commit, Entry, SpellsCommit, SpellsTree}
use Rattle.git_object.specs.Links.{kind_of}
use Rattle.git_object.specs.declared.kind.Kind.{Kind}
use Rattle.git_object.specs.declared.kind.Kind.TheVariants as kinds
use Rattle.commit_graph.specs.Objects.{ObjectMap}

-- what was found has P; where nothing was found, nothing has it
abbrev pub Finds : (Oid → Type 0) → Option Oid → Type 0
Finds P None = (oid : Oid) → P oid → ⊥
Finds P (Some oid) = P oid

-- one of the entries has this name, and links to this object as one of the kind
pub record IsAmong (entries : List Entry) (kind : Kind) (entry_name : List ℕ) (oid : Oid) : Type 0 where
  pub entry : Entry
  pub among : Contains entries entry
  pub named : entry.name ≡ entry_name
  pub linked : kind_of entry.mode ≡ Some kind
  pub is : entry.oid ≡ oid

-- the bytes are those of a tree with such an entry
pub record IsEntryIn (bytes : List ℕ) (kind : Kind) (entry_name : List ℕ) (oid : Oid) : Type 0 where
  pub entries : List Entry
  pub spells : SpellsTree entries bytes
  pub is : IsAmong entries kind entry_name oid

-- the tree is there and in its grammar, and has such an entry
pub record HasEntry (objects : ObjectMap) (tree : Oid) (kind : Kind) (entry_name : List ℕ) (oid : Oid) : Type 0 where
  pub bytes : List ℕ
  pub there : objects tree ≡ Some (kinds.Tree, bytes)
  pub is : IsEntryIn bytes kind entry_name oid

-- the commit is there and in its grammar
pub record HasCommit (objects : ObjectMap) (oid : Oid) (commit : Commit) : Type 0 where
  pub bytes : List ℕ
  pub there : objects oid ≡ Some (kinds.Commit, bytes)
  pub spells : SpellsCommit commit bytes

-- the tree of the commit has such an entry
pub record HasCommitEntry (objects : ObjectMap) (oid : Oid) (kind : Kind) (entry_name : List ℕ) (found : Oid) : Type 0 where
  pub commit : Commit
  pub has : HasCommit objects oid commit
  pub entry : HasEntry objects commit.tree kind entry_name found
