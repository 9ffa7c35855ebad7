-- When links and trees that are written are refused.
use Rattle.std.specs.Prelude.{ℕ, ◌+◌, ◌<◌, List, length, take}
use Rattle.git_object.specs.Grammar.{Entry, SpellsTree, tree_text}
use Rattle.git_object.specs.Links.{IsWellFormed}
use Rattle.git_object.specs.Places.{Breaks}
use Rattle.git_object.specs.declared.kind.Kind.{Kind}
use Rattle.git_object.specs.declared.link.LinksFault.{LinksFault}
use Rattle.git_object.specs.declared.link.LinksFault.TheVariants as links
use Rattle.git_object.specs.declared.writing.TreeFault.{TreeFault}
use Rattle.git_object.specs.declared.writing.TreeFault.TheVariants as trees

-- the bytes are not those of an object of the kind, and leave its grammar at the place
pub record IsBadAt (kind : Kind) (bytes : List ℕ) (place : ℕ) : Type 0 where
  pub broken : Breaks kind bytes place
  pub refused : IsWellFormed kind bytes → ⊥

-- why links are not given
abbrev pub IsLinksFault : Kind → List ℕ → LinksFault → Type 0
IsLinksFault kind bytes (links.Bad place) = IsBadAt kind bytes place
IsLinksFault kind bytes links.NoMemory = Unit {0}

-- the entries before this one are those of a tree, and with it they are not
pub record IsFirstBad (entries : List Entry) (i : ℕ) : Type 0 where
  pub inside : i < length entries
  pub before : SpellsTree (take i entries) (tree_text (take i entries))
  pub bad : SpellsTree (take (i + 1) entries) (tree_text (take (i + 1) entries)) → ⊥

-- why a tree is not written
abbrev pub IsTreeFault : List Entry → TreeFault → Type 0
IsTreeFault entries (trees.BadEntry i) = IsFirstBad entries i
IsTreeFault entries trees.NoMemory = Unit {0}
